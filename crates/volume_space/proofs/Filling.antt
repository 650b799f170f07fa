-- A volume with another growth in hand, and a fill as its callers see it.
use Rattle.std.proofs.Common.{◌≡◌, ◌≤◌, ℕ, ◌*◌, ◌/◌, List, refl, sym, ◌∙◌, ap, subst}
use Rattle.std.specs.Prelude.{Contains, Err, IsTrue, None, Ok, OnOk, Option, Result, Some}
use Rattle.hx_bytes.specs.declared.faults.Trouble.{Trouble}
use Rattle.alloc_bitmap.specs.Map.{BlockMap, free_of}
use Rattle.cat_records.specs.declared.record.FileRecord.{FileRecord}
use Rattle.btree_edit.specs.Causes.{HasTroubleCause}
use Rattle.file_io.specs.Bytes.{HoldZeros, sectors_in}
use Rattle.file_io.specs.Places.{fresh_of, zeros_at}
use Rattle.flag_rows.specs.Bits.{count_set}
use Rattle.sector_disk.specs.Lists.{Content}
use Rattle.sector_disk.specs.Space.{Space}
use Rattle.sector_disk.proofs.SpaceLaws.{space_none}
use Rattle.volume_base.specs.Frame.{Serves}
use Rattle.volume_base.specs.Keeping.{Keeps}
use Rattle.volume_base.specs.Looking.{ReadsVolume}
use Rattle.volume_base.specs.Service.{IsInService}
use Rattle.volume_base.specs.Standing.{IsSettled, IsStanding, StandsOver, own_sectors}
use Rattle.volume_header.specs.declared.header.VolumeHeader.{VolumeHeader}
use Rattle.volume_base.specs.declared.volume.Filling.{Filling}
use Rattle.volume_base.specs.declared.volume.Volume.{Volume}
use Rattle.volume_base.proofs.Commanding.{touches_none}
use Rattle.volume_base.specs.Holding.{IsLaidOutAs}
use Rattle.volume_space.specs.Writing.{PutsValue}
use Rattle.volume_space.specs.Zeroing.{Fills, HasFilled, IsInHand, blocks_taken}

module _ (v : Volume) (f : Option Filling) where
  abbrev pub with_growth : Volume
  with_growth = record v { filling = f }

  pub service_with : (a : Space) → IsInService v a → IsInService (record v { filling = f }) a
  service_with a was = record {
    extents = was.extents;
    catalog = was.catalog;
    attributes = was.attributes;
    fits = was.fits;
    least = was.least;
    most = was.most;
    map_inside = was.map_inside;
    map_long = was.map_long;
    marks = was.marks;
  }

  standing_with : (a : Space) → IsStanding v a → IsStanding (record v { filling = f }) a
  standing_with a was = record {
    trees = record { extents = was.trees.extents; catalog = was.trees.catalog; compare = was.trees.compare; attributes = was.trees.attributes };
    forks = record {
      extents = was.forks.extents;
      extents_per = was.forks.extents_per;
      catalog = was.forks.catalog;
      catalog_per = was.forks.catalog_per;
      attributes = was.forks.attributes;
      attributes_per = was.forks.attributes_per;
      map = was.forks.map;
      map_per = was.forks.map_per;
    };
    whole = was.whole;
    apart = was.apart;
    blocks = was.blocks;
    closed = was.closed;
    aside = was.aside;
    large = was.large;
    inside = was.inside;
    fit = was.fit;
    live = was.live;
  }

  pub stands_with : (a : Space) → StandsOver v a → StandsOver (record v { filling = f }) a
  stands_with a was = record { service = service_with a was.service; stands = λ tells. standing_with a (was.stands tells) }

  pub settled_with : (content : Content) → IsSettled v content → IsSettled (record v { filling = f }) content
  settled_with content was = record { blocks = was.blocks; lists = was.lists; attributes = was.attributes; sound = was.sound; private = was.private }

  pub serves_with : (a : Space) → Serves v a → Serves (record v { filling = f }) a
  serves_with a was = record { stands = stands_with a was.stands; settled = λ tells. settled_with a.content (was.settled tells) }

  pub laid_with : (committed : Content) → IsLaidOutAs committed v → IsLaidOutAs committed (record v { filling = f })
  laid_with committed was = record { block = was.block; total = was.total }

  pub puts_with : (kind : ℕ) (file : FileRecord) (from : ℕ) (value : List ℕ) (w : Volume) (before after : Content) → PutsValue kind file from value (record v { filling = f }) w before after → PutsValue kind file from value v w before after
  puts_with kind file from value w before after puts = record {
    lists = puts.lists;
    fresh = puts.fresh;
    many = puts.many;
    rewrites = puts.rewrites;
    same_file = puts.same_file;
    makes = puts.makes;
    settles = puts.settles;
    tree = puts.tree;
    now = puts.now;
  }

-- nothing is in hand, so it is filled
pub none_filled : (w : Volume) (a : Space) → w.filling ≡ None → HasFilled w a
none_filled w a none it same = absurd (let no : Some it ≡ None = sym same ∙ none in cc no)

-- the growth in hand, of a volume with the same header and bitmap over a space with the same content
pub filled_still : (v w : Volume) (a b : Space) → w.filling ≡ v.filling → w.header ≡ v.header → w.map.used ≡ v.map.used → w.map.held ≡ v.map.held → b.tells ≡ a.tells → (IsTrue a.tells → b.content ≡ a.content) → HasFilled v a → HasFilled w b
filled_still v w a b filling header used held tells content was it is =
    let had : IsInHand v it a = was it (sym filling ∙ is) in
    record {
      blocks = had.blocks ∙ sym (λ i. fresh_of (record w.map { used = used i; held = held i }) (blocks_taken (record w { header = header i }) it));
      enough = subst (λ (k : ℕ × BlockMap). k.0 ≤ count_set (free_of k.1)) {x = (blocks_taken v it, record w.map { used = v.map.used; held = v.map.held })} {y = (blocks_taken w it, w.map)} (λ i. (blocks_taken (record w { header = sym header i }) it, record w.map { used = sym used i; held = sym held i })) had.enough;
      place = had.place ∙ sym (ap (λ (h : VolumeHeader). zeros_at h.block_size it.old_size it.old_size it.new_size) header);
      zeros = λ told.
          let before = sym tells ∙ told in
          subst (λ (k : VolumeHeader × Content). HoldZeros k.1 (sectors_in k.0.block_size it.blocks) (it.place * (k.0.block_size / 512)) (it.done * (k.0.block_size / 512))) {x = (v.header, a.content)} {y = (w.header, b.content)} (λ i. (sym header i, sym (content before) i)) (had.zeros before);
    }

-- so it is behind reads
pub filled_read : (v w : Volume) (a b : Space) → ReadsVolume v w a b → HasFilled v a → HasFilled w b
filled_read v w a b reads = filled_still v w a b reads.keeps.filling reads.keeps.header (λ i. (reads.keeps.map i).used) (λ i. (reads.keeps.map i).held) reads.looks.same.tells reads.looks.content

-- and behind a keep
pub filled_kept : (v w : Volume) (a : Space) → Keeps v w → HasFilled v a → HasFilled w a
filled_kept v w a keeps = filled_still v w a a keeps.filling keeps.same.header keeps.same.used keeps.held refl (λ tells. refl)

on_each : {T E P : Type 0} (r : Result T E) → P → OnOk r P
on_each (Ok x) is = is
on_each (Err why) is = tt

-- nothing is said of an answer where there is none
pub on_fault : {T E : Type 0} (P : Type 0) (r : Result T E) (why : E) → r ≡ Err why → OnOk r P
on_fault {T} {E} P r why is = subst (λ (q : Result T E). OnOk q P) (sym is) tt

-- where nothing is done to the space
pub fills_none : {S T : Type 0} (space_of : S → Space) (follows : S → S → Type 0) (v w : Volume) (s : S) (result : Result T Trouble) → follows s s → HasTroubleCause (space_of s).faults (space_of s).faults result → w ≡ record v { filling = w.filling }
    → Serves v (space_of s) → HasFilled w (space_of s) → Fills space_of follows v w s s result
fills_none space_of follows v w s result below cause rest serves filled =
    let now : Serves w (space_of s) = subst (λ (x : Volume). Serves x (space_of s)) (sym rest) (serves_with v w.filling (space_of s) serves) in
    record {
      below = below;
      cause = cause;
      rest = rest;
      service = now.stands.service;
      serves = on_each result now;
      filled = on_each result filled;
      touches = λ committed holds alike. touches_none committed (λ s. Contains (own_sectors v) s) (space_of s);
      room = record { put = λ s. refl; spare = refl };
      same = space_none (space_of s);
    }

-- a fill of a volume that has no growth in hand any more, as one of the volume before
pub fills_with : {S T : Type 0} (space_of : S → Space) (follows : S → S → Type 0) (v u w : Volume) (f : Option Filling) (before after : S) (result : Result T Trouble) → u ≡ record v { filling = f }
    → Fills space_of follows u w before after result → Fills space_of follows v w before after result
fills_with space_of follows v u w f before after result is fills = back (subst (λ (x : Volume). Fills space_of follows x w before after result) is fills)
  where
    back : Fills space_of follows (record v { filling = f }) w before after result → Fills space_of follows v w before after result
    back it = record {
      below = it.below;
      cause = it.cause;
      rest = it.rest;
      service = it.service;
      serves = it.serves;
      filled = it.filled;
      touches = λ committed holds alike. it.touches committed holds (laid_with v f committed alike);
      room = it.room;
      same = it.same;
    }

-- and over another value of the bitmap, which is the same
pub fills_map : {S T : Type 0} (space_of : S → Space) (follows : S → S → Type 0) (v w : Volume) (later : BlockMap) (before after : S) (result : Result T Trouble) → later ≡ v.map
    → Fills space_of follows (record v { map = later }) w before after result → Fills space_of follows v w before after result
fills_map space_of follows v w later before after result same fills = subst (λ (m : BlockMap). Fills space_of follows (record v { map = m }) w before after result) same fills

pub serves_map : (v : Volume) (later : BlockMap) (a : Space) → later ≡ v.map → Serves v a → Serves (record v { map = later }) a
serves_map v later a same serves = subst (λ (m : BlockMap). Serves (record v { map = m }) a) (sym same) serves
