use Rattle.combination.proofs.answer.FaultDisplay.fmt.Goals as goal

pub returns-in-EntryCount-clause-writes : goal.returns-in-EntryCount-clause-writes
returns-in-EntryCount-clause-writes g c = λ plain ok. rw c.in-EntryCount.is (c.write-in-EntryCount.ensures.writes plain ok)
