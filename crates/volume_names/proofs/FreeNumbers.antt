-- The first number that no name of the private folder has.
use Rattle.std.proofs.Common.{ℕ, List, inl, inr}
use Rattle.std.specs.Prelude.{Result, Ok, Err, IfOk}
use Rattle.btree_node.specs.Levels.{Pair}
use Rattle.hard_links.specs.Numbers.{IsFree, IsFirstFree}

first_is_free : (pairs : List Pair) (private : ℕ) (word : List ℕ) (own number : ℕ) → IsFirstFree pairs private word own number → IsFree pairs private word number
first_is_free pairs private word own number (inl from) = from.free
first_is_free pairs private word own number (inr both) = both.1.free

-- it is free
pub first_free : {E : Type 0} (result : Result ℕ E) (pairs : List Pair) (private : ℕ) (word : List ℕ) (own : ℕ) → IfOk result (IsFirstFree pairs private word own) → IfOk result (IsFree pairs private word)
first_free (Ok number) pairs private word own first = first_is_free pairs private word own number first
first_free (Err e) pairs private word own first = first
