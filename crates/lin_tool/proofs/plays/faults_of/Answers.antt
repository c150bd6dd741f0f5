use Rattle.lin_tool.proofs.plays.faults_of.Goals as goal

pub returns-in-Err-Bad : goal.returns-in-Err-Bad
returns-in-Err-Bad g c =
    let bad = c.in-Err-Bad.bad in (
      (bad.fault.now, bad.reason),
      rw c.in-Some.is (rw (c.as_bytes.ensures.value, c.in-Err-Bad.is, c.in-Err-Bad.field-0-is) at c.read_faults.ensures),
      c.write_bad_fault.ensures,
    )
