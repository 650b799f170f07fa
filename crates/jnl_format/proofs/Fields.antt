-- Fields written one behind the other.
use Rattle.std.proofs.Common.{◌≡◌, ℕ, ◌+◌, List, [], ◌++◌, length, drop, refl, ◌∙◌, ap, arith}
use Rattle.std.proofs.lemmas.List.{length-append, append-nil, drop_all}
use Rattle.hx_bytes.specs.Field.{number_bytes, put_at}
use Rattle.hx_bytes.specs.declared.fields.Order.{Order}
use Rattle.hx_bytes.proofs.Laws.{length-number_bytes, put_at-more}

-- so far these stand in front, and the rest is as it was
pub record Spells (front old cur : List ℕ) (at : ℕ) : Type 0 where
  pub long : length front ≡ at
  pub is : cur ≡ front ++ drop at old

pub spells_none : (old : List ℕ) → Spells [] old old 0
spells_none old = record { long = refl; is = refl }

pub spells_more : (order : Order) (n x at : ℕ) (front old cur new : List ℕ) → Spells front old cur at → new ≡ put_at cur at (number_bytes order n x) → Spells (front ++ number_bytes order n x) old new (at + n)
spells_more order n x at front old cur new s e = record {
  long = length-append front (number_bytes order n x) ∙ omega (arith, length-number_bytes order n x, s.long);
  is =
      e ∙ put_at-more cur old front (number_bytes order n x) at s.long s.is
      ∙ ap (λ k. (front ++ number_bytes order n x) ++ drop (at + k) old) (length-number_bytes order n x);
}

-- all of them are written
pub spells_all : (front old cur : List ℕ) (at : ℕ) → Spells front old cur at → length old ≡ at → cur ≡ front
spells_all front old cur at s long = s.is ∙ ap (λ (l : List ℕ). front ++ l) (drop_all at old (omega (arith, long))) ∙ append-nil front
