-- Which sizes and names are accepted.
use Rattle.std.proofs.Common.{◌≡◌, ℕ, Bool, true, false, IsTrue, List, Option, Some, None, refl, ap}
use Rattle.std.specs.Prelude.{not, nat_lt, if◌then◌else◌}
use Rattle.std.proofs.Common.{◌≤◌, ◌<◌, suc, arith, ⊎_elim}
use Rattle.std.proofs.lemmas.Bool.Decides.{leb_tells}
use Rattle.volume_make.specs.declared.fault.FormatFault.TheVariants.{TooSmall, TooLarge, BadBlockSize, BadJournalSize, BadName}
use Rattle.volume_make.specs.Refusal.{is_block_size, fits_blocks, fits_journal, is_name, format_refusal}
use Rattle.volume_make.specs.Layout.{CanBe}

abbrev is_some : {R : Type 0} → Option R → Bool
is_some None = false
is_some (Some x) = true

-- a test that is false is passed
passed : {R : Type 0} (b : Bool) (x : R) (rest : Option R) → (if b then Some x else rest) ≡ None → (b ≡ false) × (rest ≡ None)
passed true x rest same = absurd (cc (ap is_some same))
passed false x rest same = (refl, same)

not_false : (b : Bool) → not b ≡ false → b ≡ true
not_false true is = refl
not_false false is = absurd (cc is)

lt_false : (a b : ℕ) → nat_lt a b ≡ false → b ≤ a
lt_false a b is = ⊎_elim (λ (s : (nat_lt a b ≡ true) × (suc a ≤ b)). absurd (cc (is, s.0))) (λ (d : (nat_lt a b ≡ false) × (b < suc a)). omega (arith, d.1)) (leb_tells (suc a) b)

pub record IsAccepted (sectors block length : ℕ) (name : List ℕ) : Type 0 where
  pub sizes : CanBe sectors block length
  pub name_fits : IsTrue (is_name name)

pub accepted : (s b j : ℕ) (name : List ℕ) → format_refusal s b j name ≡ None → IsAccepted s b j name
accepted s b j name none =
    let p1 = passed (nat_lt s 16384) (TooSmall s) _ none in
    let p2 = passed (nat_lt 2147483648 s) (TooLarge s) _ p1.1 in
    let p3 = passed (not (is_block_size b)) (BadBlockSize b) _ p2.1 in
    let p4 = passed (not (fits_blocks s b)) (BadBlockSize b) _ p3.1 in
    let p5 = passed (not (fits_journal s b j)) (BadJournalSize j) _ p4.1 in
    let p6 = passed (not (is_name name)) BadName None p5.1 in
    record {
      sizes = record {
        many = lt_false s 16384 p1.0;
        few = lt_false 2147483648 s p2.0;
        block_size = not_false (is_block_size b) p3.0;
        blocks = not_false (fits_blocks s b) p4.0;
        journal = not_false (fits_journal s b j) p5.0;
      };
      name_fits = not_false (is_name name) p6.0;
    }
