-- Each command is answered by its own function.
use Rattle.std.proofs.Common.{rules, sym, subst}
use Rattle.hfs_model.proofs.plain.PlainTree.answer.Goals as goal

pub returns-in-Mkdir : goal.returns-in-Mkdir
returns-in-Mkdir c = rw c.in-Mkdir.is (rw (← c.as_slice.ensures) c.make.ensures)

pub returns-in-Create : goal.returns-in-Create
returns-in-Create c = rw c.in-Create.is (rw (← c.as_slice-in-Create.ensures) c.make-in-Create.ensures)

pub returns-in-Mv : goal.returns-in-Mv
returns-in-Mv c = rw c.in-Mv.is (rw (← c.as_slice-in-Mv.ensures, ← c.as_slice-in-Mv-2.ensures) c.mv.ensures)

pub returns-in-Ln : goal.returns-in-Ln
returns-in-Ln c = rw c.in-Ln.is (rw (← c.as_slice-in-Ln.ensures, ← c.as_slice-in-Ln-2.ensures) c.ln.ensures)

pub returns-in-Read : goal.returns-in-Read
returns-in-Read c = rw c.in-Read.is (rw (← c.as_slice-in-Read.ensures) c.read.ensures)

pub returns-in-Chmod : goal.returns-in-Chmod
returns-in-Chmod c = rw c.in-Chmod.is (rw (← c.as_slice-in-Chmod.ensures) c.chmod.ensures)

pub returns-in-Trunc : goal.returns-in-Trunc
returns-in-Trunc c = rw c.in-Trunc.is (rw (← c.as_slice-in-Trunc.ensures) c.trunc.ensures)
