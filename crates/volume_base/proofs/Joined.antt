-- Calls that change the volume's own sectors, one behind another with the sum of what they put, and a put of the header among them.
use Rattle.std.proofs.Common.{◌≡◌, ◌≤◌, ℕ, ◌+◌, IsTrue, List, [], ◌∷◌, refl, sym, ◌∙◌, ap, arith}
use Rattle.std.specs.Prelude.{⊤, Result, Ok, Err, OnOk}
use Rattle.std.specs.List.{Contains}
use Rattle.hx_bytes.specs.declared.faults.Trouble.{Trouble}
use Rattle.hx_bytes.specs.declared.faults.Trouble.TheVariants.{Memory}
use Rattle.sector_disk.specs.Space.{Space}
use Rattle.btree_file.specs.Frame.{PutsWithin}
use Rattle.hfs_volume.specs.Changes.{with_numbers}
use Rattle.volume_base.specs.Frame.{Serves, Edits}
use Rattle.volume_base.specs.Standing.{IsSettled, StandsOver, own_sectors}
use Rattle.volume_base.specs.declared.volume.Volume.{Volume}
use Rattle.volume_base.proofs.Besides.{blocks_header, blocks_none}
use Rattle.volume_base.proofs.Commanding.{touches_none}
use Rattle.volume_base.proofs.Framed.{edits_then}
use Rattle.volume_base.proofs.Touched.{touches_header}

-- where it stands and has what the content has, it serves
serving : {T : Type 0} (w : Volume) (a b : Space) (r : Result T Trouble) → (IsTrue b.tells → IsTrue a.tells) → OnOk r (StandsOver w b) → (IsTrue a.tells → OnOk r (IsSettled w b.content)) → OnOk r (Serves w b)
serving w a b (Ok x) back stands settled = record { stands = stands; settled = λ told. settled (back told) }
serving w a b (Err e) back stands settled = tt

module _ {S : Type 0} {space_of : S → Space} {follows : S → S → Type 0} where
  -- they put no more sectors than both
  pub edits_both : {T U : Type 0} {n k : ℕ} {u v w : Volume} {a b c : S} {r : Result T Trouble} {s : Result U Trouble} → ((x y z : S) → follows x y → follows y z → follows x z)
      → Edits space_of follows n u v a b r → Edits space_of follows k v w b c s → Edits space_of follows (n + k) u w a c s
  edits_both {T} {U} {n} {k} {u} {v} {w} {a} {b} {c} {r} {s} both first second = edits_then {n = n} {k = k} {most = n + k} {u = u} {v = v} {w = w} both first second (λ tells. omega arith)

  -- nothing was done, and memory is wanting
  pub edits_wanting : {T : Type 0} {v : Volume} {a : S} (most : ℕ) → ((s : S) → follows s s) → StandsOver v (space_of a) → Edits {T = T} space_of follows most v v a a (Err Memory)
  edits_wanting {T} {v} {a} most none stands = record {
    ran = record {
      below = none a;
      cause = record { later = omega arith; failed = tt };
      service = stands.service;
      stands = tt;
      touches = λ committed. touches_none committed (λ s. Contains (own_sectors v) s) (space_of a);
      spent = λ tells. omega arith;
    };
    own = refl;
    blocks = blocks_none v;
  }

  -- memory is wanting behind what was done
  pub edits_short : {T U : Type 0} {most : ℕ} {v w : Volume} {a b : S} {r : Result T Trouble} → Edits space_of follows most v w a b r → Edits {T = U} space_of follows most v w a b (Err Memory)
  edits_short was = record {
    ran = record { below = was.ran.below; cause = record { later = was.ran.cause.later; failed = tt }; service = was.ran.service; stands = tt; touches = was.ran.touches; spent = was.ran.spent };
    own = was.own;
    blocks = was.blocks;
  }

  -- the header was put, with other numbers
  pub edits_header : {most : ℕ} {v w : Volume} {a b : S} → follows a b → StandsOver w (space_of b) → w ≡ record v { header = with_numbers v.header w.header } → PutsWithin (2 ∷ []) (space_of a) (space_of b)
      → (space_of a).spare ≤ (space_of b).spare + most → (space_of b).faults ≡ (space_of a).faults → Edits {T = ⊤} space_of follows most v w a b (Ok tt)
  edits_header {most} {v} {w} {a} {b} below stands rest within spent faults = record {
    ran = record {
      below = below;
      cause = record { later = omega (arith, faults); failed = tt };
      service = stands.service;
      stands = stands;
      touches = λ committed. touches_header v committed (space_of a) (space_of b) within;
      spent = λ tells. spent;
    };
    own = ap own_sectors rest;
    blocks = blocks_header v w rest;
  }

  -- behind an answer it has what the content has
  pub edits_serves : {T : Type 0} {most : ℕ} {v w : Volume} {a b : S} {r : Result T Trouble} → Edits space_of follows most v w a b r → (IsTrue (space_of a).tells → OnOk r (IsSettled w (space_of b).content)) → OnOk r (Serves w (space_of b))
  edits_serves {T} {most} {v} {w} {a} {b} {r} edits settled = serving w (space_of a) (space_of b) r (λ told. sym (edits.ran.touches []).same.tells ∙ told) edits.ran.stands settled
