-- A talk with a volume that is only read, from one moment to a later one.
use Rattle.std.proofs.Common.{◌≡◌, ◌≤◌, ℕ, refl, sym, ◌∙◌, arith, subst}
use Rattle.std.specs.Prelude.{IsTrue}
use Rattle.std.proofs.lemmas.List.{append-nil}
use Rattle.jnl_format.specs.Recovery.{Content}
use Rattle.sector_disk.specs.Space.{Space}
use Rattle.volume_base.specs.Room.{capacity_of}
use Rattle.volume_base.specs.Standing.{IsSettled, StandsOver}
use Rattle.volume_base.specs.declared.volume.Volume.{Volume}
use Rattle.volume_look.specs.Talk.{HearsEach, HearsRight, Talk}
use Rattle.volume_look.proofs.Talks.{each_both, each_none, right_both, right_none}

-- The volume stands over the same content, and each command that was asked since has its right reply heard.
pub record Goes (v : Volume) (a : Space) (t : Talk) (w : Volume) (b : Space) (u : Talk) : Type 0 where
  pub stands : StandsOver w b
  pub settled : IsTrue b.tells → IsSettled w b.content
  pub tells : b.tells ≡ a.tells
  pub content : IsTrue a.tells → b.content ≡ a.content
  pub capacity : capacity_of w ≡ capacity_of v
  pub names : b.names ≡ a.names
  pub faults : a.faults ≤ b.faults
  pub told : u.tells ≡ t.tells
  pub right : IsTrue a.tells → IsTrue t.tells → HearsRight (capacity_of v) a.content t u
  pub each : IsTrue t.tells → HearsEach t u

pub goes_none : (v : Volume) (a : Space) (t : Talk) → StandsOver v a → (IsTrue a.tells → IsSettled v a.content) → Goes v a t v a t
goes_none v a t stands settled = record {
  stands = stands;
  settled = settled;
  tells = refl;
  content = λ tells. refl;
  capacity = refl;
  names = refl;
  faults = omega arith;
  told = refl;
  right = λ tells told. right_none (capacity_of v) a.content t t refl;
  each = λ told. each_same t;
}
  where
    each_same : (t : Talk) → HearsEach t t
    each_same t = each_none t t refl (sym (append-nil t.asked))

module _ (v : Volume) (a : Space) (t : Talk) (w : Volume) (b : Space) (u : Talk) (goes : Goes v a t w b u) where
  -- what was heard since is right, where it is behind
  pub right_then : (s : Talk) → (IsTrue b.tells → IsTrue u.tells → HearsRight (capacity_of w) b.content u s) → IsTrue a.tells → IsTrue t.tells → HearsRight (capacity_of v) a.content t s
  right_then s more tells told =
      let moved = more (goes.tells ∙ tells) (goes.told ∙ told) in
      right_both (capacity_of v) a.content t u s (goes.right tells told)
      (subst (λ (x : Content). HearsRight (capacity_of v) x u s) (goes.content tells) (subst (λ n. HearsRight n b.content u s) goes.capacity moved))

  pub goes_both : (x : Volume) (c : Space) (s : Talk) → Goes w b u x c s → Goes v a t x c s
  goes_both x c s next = record {
    stands = next.stands;
    settled = next.settled;
    tells = next.tells ∙ goes.tells;
    content = λ tells. next.content (goes.tells ∙ tells) ∙ goes.content tells;
    capacity = next.capacity ∙ goes.capacity;
    names = next.names ∙ goes.names;
    faults = omega (arith, goes.faults, next.faults);
    told = next.told ∙ goes.told;
    right = right_then s next.right;
    each = λ told. each_both t u s (goes.each told) (next.each (goes.told ∙ told));
  }
