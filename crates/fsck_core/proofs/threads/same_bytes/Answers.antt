use Rattle.std.proofs.Common.{◌≡◌, ◌-◌, ℕ, List, length, take, drop, sym, ◌∙◌, arith, length-drop}
use Rattle.std.proofs.lemmas.List.{take_all}
use Rattle.std.proofs.lemmas.Slice.Eq.{bytes_eq-Decides}
use Rattle.fsck_core.proofs.threads.same_bytes.Goals as goal

-- all that stands from a place on
rest : (bytes : List ℕ) (from : ℕ) → take (length bytes - from) (drop from bytes) ≡ drop from bytes
rest bytes from = take_all (length bytes - from) (drop from bytes) (omega (arith, length-drop from bytes))

pub returns : goal.returns
returns c same =
    let one : List ℕ = c.args.one.now in
    let other : List ℕ = c.args.other.now in
    sym (rest one c.args.from)
    ∙ (bytes_eq-Decides (take (length one - c.args.from) (drop c.args.from one)) (take (length other - c.args.there) (drop c.args.there other))).0 (sym c.are_equal.ensures ∙ same)
    ∙ rest other c.args.there
