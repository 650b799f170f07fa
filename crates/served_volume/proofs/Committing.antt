-- A volume behind a commit.
use Rattle.std.proofs.Common.{◌≡◌, ◌⊎◌, ◌<◌, ◌≤◌, ℕ, Bool, false, List, length, refl, sym, ◌∙◌, ap, subst}
use Rattle.std.specs.Prelude.{All, IsTrue, Option}
use Rattle.std.proofs.lemmas.List.{length-replicate}
use Rattle.alloc_bitmap.specs.Untold.{told_none}
use Rattle.alloc_bitmap.specs.declared.bitmap.Bitmap.{Bitmap}
use Rattle.flag_rows.specs.Bits.{sectors_for}
use Rattle.fork_map.specs.Blocks.{fork_sectors}
use Rattle.jnl_format.specs.Recovery.{Content, header_of_volume, info_sector_of}
use Rattle.sector_disk.specs.Lists.{sector}
use Rattle.sector_disk.specs.Space.{Space, AgreesOutside}
use Rattle.hfs_volume.specs.Aside.{AsideIsFree, NamesJournal}
use Rattle.hfs_volume.specs.Content.{JournalPlace, volume_of, journal_place}
use Rattle.hfs_volume.specs.TreeOf.{tree_of}
use Rattle.hfs_serving.specs.Grounds.{Anchor, ShowsJournal}
use Rattle.hfs_serving.specs.Outside.{Outside}
use Rattle.hfs_serving.specs.Serving.{Commits, IsRead}
use Rattle.volume_base.specs.Keeping.{SameStanding, Settles}
use Rattle.volume_base.specs.Room.{capacity_of}
use Rattle.volume_base.specs.Service.{IsInService}
use Rattle.volume_base.specs.Holding.{HoldsOn}
use Rattle.volume_base.specs.Standing.{IsSettled, IsStanding, StandsOver}
use Rattle.volume_base.specs.declared.volume.Kept.{Kept}
use Rattle.volume_base.specs.declared.volume.Volume.{Volume}
use Rattle.served_volume.specs.Knowing.{IsAlike, IsOfSize, Knows}
use Rattle.served_volume.proofs.LaidOut.{laid_out}
use Rattle.served_volume.proofs.Elsewhere.{DiffersInJournal, as_sound, settled_elsewhere, stands_elsewhere}
use Rattle.served_volume.proofs.Heading.{journal_alike}
use Rattle.served_volume.proofs.Holding.{holds_used}
use Rattle.served_volume.proofs.Service.{service_on}
use Rattle.volume_step.proofs.Unfilled.{filled_none}

module _ (v w : Volume) (settles : Settles v w) where
  -- but for its marks of blocks, what an undo brings back and a growth in hand it is as it was
  is_same : record v { map = w.map; kept = w.kept; filling = w.filling } ≡ w
  is_same = λ i. record {
    header = sym settles.same.header i;
    map = w.map;
    extents = sym settles.same.extents i;
    catalog = sym settles.same.catalog i;
    attributes = sym settles.same.attributes i;
    private = sym settles.same.private i;
    shrunk = sym settles.same.shrunk i;
    capacity = sym settles.same.capacity i;
    kept = w.kept;
    filling = w.filling;
  }

  service_then : (space : Space) → IsInService v space → IsInService (record v { map = w.map; kept = w.kept; filling = w.filling }) space
  service_then space was = record {
    extents = was.extents;
    catalog = was.catalog;
    attributes = was.attributes;
    fits = was.fits;
    least = was.least;
    most = was.most;
    map_inside = subst (λ (l : List ℕ). All (λ at. at < space.sectors) l) (λ i. fork_sectors (sym settles.same.fork i) (sym settles.same.per_block i)) was.map_inside;
    map_long = subst (λ (k : List Bool × List ℕ). sectors_for (length k.0) ≤ length k.1) {x = (v.map.used, fork_sectors v.map.fork v.map.per_block)} {y = (w.map.used, fork_sectors w.map.fork w.map.per_block)}
        (λ i. (sym settles.same.used i, fork_sectors (sym settles.same.fork i) (sym settles.same.per_block i))) was.map_long;
    marks = ap (λ (l : List Bool). length l) settles.changed ∙ was.marks ∙ ap (λ (l : List Bool). sectors_for (length l)) (sym settles.same.used);
  }

  pub service_settled : (space : Space) → IsInService v space → IsInService w space
  service_settled space was = subst (λ (u : Volume). IsInService u space) is_same (service_then space was)

  module _ (law : AsideIsFree) (capacity : ℕ) (committed now : Content) (shrunk : Option ℕ) (a b : Space) (known : Knows v capacity committed now shrunk a) (tells : IsTrue a.tells) (sectors : b.sectors ≡ a.sectors) (differs : DiffersInJournal a b) where
    was : IsStanding v a
    was = known.stands.stands tells

    stands_then : IsStanding w b
    stands_then = subst (λ (u : Volume). IsStanding u b) is_same (stands_elsewhere law v a b was known.settled known.alike.sound_other differs w.map w.kept w.filling settles.same.used settles.same.fork settles.same.per_block)

    settled_then : IsSettled w b.content
    settled_then = subst (λ (u : Volume). IsSettled u b.content) is_same (settled_elsewhere law v a b was known.settled known.alike.sound_other differs w.map w.kept w.filling settles.same.used settles.same.fork settles.same.per_block)

    pub committed_knows : Knows w capacity now now shrunk b
    committed_knows =
        let other = as_sound law v a b was known.settled known.alike.sound_other differs in
        record {
          stands = record { service = service_settled b (service_on v a b sectors known.stands.service); stands = λ _. stands_then };
          settled = settled_then;
          filled = filled_none w b settles.filling;
          holds = (
            ap (λ (l : List Bool). length l) settles.held ∙ length-replicate (length v.map.used) false ∙ sym (ap (λ (l : List Bool). length l) settles.same.used),
            λ block set. holds_used v a.content now known.alike.lists known.settled w.map.used w.map.held settles.same.used block set,
          );
          laid_out = laid_out w b.content now (known.alike.lists ∙ sym other.1) settled_then;
          was_sound = known.alike.sound;
          capacity_is = settles.same.capacity ∙ known.capacity_is;
          shrunk_is = settles.same.shrunk ∙ known.shrunk_is;
          alike = record { sound = known.alike.sound; sound_other = other.0; lists = known.alike.lists ∙ sym other.1; tree = known.alike.tree ∙ sym other.2 };
        }

abbrev place_at : ℕ → ℕ → JournalPlace
place_at offset size = record { offset = offset; size = size }

-- what a commit changed, but for what was put before it, lies in the journal
pub differs : (v : Volume) (capacity : ℕ) (committed now : Content) (shrunk : Option ℕ) (a b : Space) (before after : Outside) (first last : Anchor) → Knows v capacity committed now shrunk a → IsRead now a → Commits a before b after → last ≡ first → ShowsJournal first.journal a → ShowsJournal last.journal b
    → DiffersInJournal a b
unfolding volume_of
differs v capacity committed now shrunk a b before after first last known reads commits same shows shows_then = record {
  agrees = commits.content;
  closed = commits.closed;
  journal = λ s shut. journal_alike now a.content (sym known.alike.lists) s (reads.closed s shut);
  names = shows_then.names ∙ ap (λ (n : Anchor). place_at n.journal.info.offset n.journal.info.size) same ∙ sym shows.names;
  whole = shows_then.whole;
  live = commits.live;
}
