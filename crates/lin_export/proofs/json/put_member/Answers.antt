use Rattle.lin_export.proofs.Objects.{grows-member}
use Rattle.lin_export.proofs.json.put_member.Goals as goal

pub returns-in-Null : goal.returns-in-Null
returns-in-Null g c = rw c.in-Null.is (grows-member _ c.put_key.ensures c.put.ensures)

pub returns-in-Number : goal.returns-in-Number
returns-in-Number g c = rw c.in-Number.is (grows-member _ c.put_key-in-Number.ensures c.put_number.ensures)

pub returns-in-Text : goal.returns-in-Text
returns-in-Text g c = rw c.in-Text.is (grows-member _ c.put_key-in-Text.ensures c.put_quoted.ensures)

pub returns-in-Hex : goal.returns-in-Hex
returns-in-Hex g c = rw c.in-Hex.is (grows-member _ c.put_key-in-Hex.ensures c.put_hex_text.ensures)

pub returns-in-Truth : goal.returns-in-Truth
returns-in-Truth g c = rw c.in-Truth.is (grows-member _ c.put_key-in-Truth.ensures c.put_truth.ensures)

pub returns-in-Escaped : goal.returns-in-Escaped
returns-in-Escaped g c = rw c.in-Escaped.is (grows-member _ c.put_key-in-Escaped.ensures c.put_escaped_text.ensures)

pub returns-in-Shown : goal.returns-in-Shown
returns-in-Shown g c = rw c.in-Shown.is (grows-member _ c.put_key-in-Shown.ensures c.put_text_value.ensures)

pub returns-in-Printable : goal.returns-in-Printable
returns-in-Printable g c = rw c.in-Printable.is (grows-member _ c.put_key-in-Printable.ensures c.put_printable.ensures)
