use Rattle.std.proofs.Common.{◌++◌, ap, codes}
use Rattle.lin_text.proofs.Growing.{grows-more, same-growth}
use Rattle.lin_tool.proofs.fault_lines.put_fault.Goals as goal

pub returns-in-LdfTooLong : goal.returns-in-LdfTooLong
returns-in-LdfTooLong g c = rw c.in-LdfTooLong.is c.put_text.ensures

pub returns-in-NoSuchTable : goal.returns-in-NoSuchTable
returns-in-NoSuchTable g c = rw c.in-NoSuchTable.is c.put_text-in-NoSuchTable.ensures

pub returns-in-UnusedParameter : goal.returns-in-UnusedParameter
returns-in-UnusedParameter g c =
    let named = grows-more c.put.ensures c.put_text-in-UnusedParameter-2.ensures in
    rw c.in-UnusedParameter.is
    (grows-more c.put_text-in-UnusedParameter.ensures (same-growth (ap (λ t. t ++ codes ": no line uses it\n") c.as_slice-in-UnusedParameter.ensures) named))

pub returns-in-SlotLimit : goal.returns-in-SlotLimit
returns-in-SlotLimit g c =
    rw c.in-SlotLimit.is (grows-more c.put_text-in-SlotLimit.ensures (grows-more c.put_file.ensures c.put_numbered-in-SlotLimit.ensures))
