-- One bit of a node set or cleared.
use Rattle.std.proofs.Common.{◌≡◌, ℕ, ◌/◌, ◌<◌, Bool, ◌==◌, if◌then◌else◌, List, length, set, refl, ◌∙◌, ⊎_elim}
use Rattle.std.proofs.lemmas.Bool.Decides.{eqb_tells}
use Rattle.std.proofs.lemmas.List.{length-set, get_or-set_other}
use Rattle.flag_rows.specs.Bits.{bit_of}
use Rattle.btree_node.specs.TreeFile.{SetsBit}

pub sets_bit : (old : List ℕ) (at x : ℕ) (value : Bool) → at / 8 < length old → ((k : ℕ) → bit_of (set old (at / 8) x) k ≡ (if k == at then value else bit_of old k)) → SetsBit at value old (set old (at / 8) x)
sets_bit old at x value inside bits = record {
  size = length-set old (at / 8) x;
  here = ⊎_elim (λ same. bits at ∙ rw same.0 refl) (λ other. absurd (other.1 refl)) (eqb_tells at at);
  others = λ k other. ⊎_elim (λ same. absurd (other same.1)) (λ apart. bits k ∙ rw apart.0 refl) (eqb_tells k at);
  bytes = λ k other. get_or-set_other old (at / 8) k x 0 other;
}
