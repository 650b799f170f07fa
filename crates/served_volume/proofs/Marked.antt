-- The header's mark, as serving sees it.
use Rattle.std.proofs.Common.{◌≡◌, ℕ, Bool, true, false, sym, ◌∙◌, ap, subst}
use Rattle.std.specs.Prelude.{OnOk, Option, Result, Ok, Err}
use Rattle.jnl_format.specs.Recovery.{Content}
use Rattle.sector_disk.specs.Space.{Space}
use Rattle.hfs_volume.specs.Content.{VolumeState, volume_of}
use Rattle.hfs_volume.specs.TreeOf.{tree_of}
use Rattle.hfs_serving.specs.Beginning.{IsMarkedMounted}
use Rattle.hfs_serving.specs.Closing.{IsClosed}
use Rattle.hfs_serving.specs.Grounds.{KeepsHeading}
use Rattle.hfs_serving.specs.Serving.{IsDurable, IsRead}
use Rattle.volume_names.specs.Mounting.{marked_header}
use Rattle.volume_base.specs.Keeping.{shrunk_of}
use Rattle.volume_base.specs.declared.volume.Volume.{Volume}
use Rattle.served_volume.specs.Knowing.{Knows}
use Rattle.served_volume.specs.Marking.{IsMarkedAs}
use Rattle.served_volume.proofs.Stepping.{Leaves, follow, heads_then, knows_then, place_then, reads_then}

pub marked_as : (in_use : Bool) (v w : Volume) (capacity : ℕ) (committed now : Content) (shrunk : Option ℕ) (a b : Space) → Knows v capacity committed now shrunk a → IsDurable committed a → IsRead now a → KeepsHeading a → Leaves v w committed a b → shrunk_of w ≡ shrunk_of v
    → volume_of b.content ≡ record (volume_of a.content) { head = marked_header in_use (volume_of a.content).head } → tree_of b.content ≡ tree_of a.content → IsMarkedAs in_use w capacity committed now shrunk b
marked_as in_use v w capacity committed now shrunk a b known below reads heads leaves kept lists tree =
    let f = follow v w capacity committed now shrunk a b known below reads heads leaves in
    record {
      marked = f.next;
      lists = f.alike.lists ∙ lists ∙ (λ i. record (sym known.alike.lists i) { head = marked_header in_use (sym known.alike.lists i).head });
      keeps = record { sound = f.alike.sound; tree = f.alike.tree ∙ tree ∙ sym known.alike.tree };
      place = place_then v w capacity committed now shrunk a b known below reads heads leaves;
      reads = reads_then v w capacity committed now shrunk a b known below reads heads leaves;
      heads = heads_then v w capacity committed now shrunk a b known below reads heads leaves;
      known = knows_then v w capacity committed now shrunk a b known below reads heads leaves shrunk (kept ∙ known.shrunk_is);
    }

pub mounted : {T E : Type 0} (r : Result T E) (w : Volume) (capacity : ℕ) (committed now : Content) (shrunk : Option ℕ) (space : Space) → OnOk r (IsMarkedAs true w capacity committed now shrunk space)
    → OnOk r (IsMarkedMounted (λ was is file. Knows w capacity was is file space) committed now shrunk space)
mounted (Ok x) w capacity committed now shrunk space is = record { begun = is.marked; marks = record { volume = is.lists; keeps = is.keeps }; place = is.place; reads = is.reads; heads = is.heads; known = is.known }
mounted (Err e) w capacity committed now shrunk space is = is

pub closed : {T E : Type 0} (r : Result T E) (w : Volume) (capacity : ℕ) (committed now : Content) (shrunk : Option ℕ) (space : Space) → OnOk r (IsMarkedAs false w capacity committed now shrunk space)
    → OnOk r (IsClosed (λ was is file. Knows w capacity was is file space) committed now shrunk space)
closed (Ok x) w capacity committed now shrunk space is = record { ended = is.marked; sets = record { volume = is.lists; keeps = is.keeps }; place = is.place; reads = is.reads; heads = is.heads; known = is.known }
closed (Err e) w capacity committed now shrunk space is = is
