-- Free numbers, found one by one.
use Rattle.std.proofs.Common.{◌≡◌, ◌≤◌, ◌<◌, ◌+◌, ◌^◌, ℕ, Bool, true, false, List, inl, inr, refl, sym, ◌∙◌, subst, arith}
use Rattle.std.specs.Prelude.{Option, None, Some}
use Rattle.std.proofs.lemmas.Bool.{cases_lt}
use Rattle.btree_node.specs.Levels.{Pair}
use Rattle.cat_records.specs.declared.record.CatRecord.{CatRecord}
use Rattle.hfs_volume.specs.Records.{Placed, placed_in, record_at, numbered}
use Rattle.catalog.specs.Pairs.{value_at}
use Rattle.catalog.proofs.Moves.{some_value_some_record}
use Rattle.catalog.proofs.Removals.{no_value_no_record}
use Rattle.hard_links.specs.Numbers.{IsFree, TellsFree, AreTaken, IsFreeFrom}

module _ (pairs : List Pair) (private : ℕ) (word : List ℕ) where
  pub none_taken : (low : ℕ) → AreTaken pairs private word low low
  none_taken low n within below free = absurd (omega (arith, within, below))

  pub one_taken : (low number : ℕ) → AreTaken pairs private word low number → (IsFree pairs private word number → ⊥) → AreTaken pairs private word low (number + 1)
  one_taken low number taken last n within below free = elim (cases_lt n number) [
    | inl less ↦ taken n within less free
    | inr most ↦ last (subst (IsFree pairs private word) (omega (arith, below, most)) free)
  ]

  pub is_taken : (number : ℕ) (free : Bool) → TellsFree pairs private word number free → free ≡ false → IsFree pairs private word number → ⊥
  is_taken number true tells is = cc
  is_taken number false tells is = tells

  pub is_free : (number : ℕ) (free : Bool) → TellsFree pairs private word number free → free ≡ true → IsFree pairs private word number
  is_free number true tells is = tells
  is_free number false tells is = cc

  pub free_number_found : (low number : ℕ) → AreTaken pairs private word low number → low ≤ number → number < 2 ^ 32 → IsFree pairs private word number → IsFreeFrom pairs private word low number
  free_number_found low number taken within fits free = record { free = free; within = within; fits = fits; taken = taken }

  pub value_not_free : (name : List ℕ) (number : ℕ) (rec : CatRecord) → name ≡ numbered word number → Some rec ≡ value_at pairs private name → IsFree pairs private word number → ⊥
  value_not_free name number rec name_is value free =
      some_value_some_record (record_at (placed_in pairs) private (numbered word number)) rec (λ (placed : Placed). placed.value) (sym (subst (λ l. Some rec ≡ value_at pairs private l) name_is value)) free

  pub no_value_free : (name : List ℕ) (number : ℕ) → name ≡ numbered word number → None ≡ value_at pairs private name → IsFree pairs private word number
  no_value_free name number name_is value = no_value_no_record (record_at (placed_in pairs) private (numbered word number)) (subst (λ l. None ≡ value_at pairs private l) name_is value)
