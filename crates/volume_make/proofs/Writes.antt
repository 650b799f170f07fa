-- Contents after writes: sector by sector, part by part, and the whole volume.
use Rattle.std.proofs.Common.{◌≡◌, ◌≢◌, ⊎_elim, ◌<◌, ◌≤◌, ◌+◌, ◌∷◌, [], ℕ, List, IsTrue, length, set, refl, sym, ◌∙◌, ap, subst, arith, add-zero}
use Rattle.std.proofs.lemmas.List.{length-map, length-set, get_or-set_same, get_or-set_other}
use Rattle.std.proofs.lemmas.Bool.{cases_lt}
use Rattle.sector_disk.specs.Lists.{Content, sector, put_sectors, last}
use Rattle.sector_disk.specs.Disk.{State, IsDisk, HasNothingPending, content, content_of, only, with_candidate}
use Rattle.sector_disk.proofs.Candidates.{content_of-only, content_of-with_candidate}
use Rattle.sector_disk.proofs.Stages.{put_before, put_behind, put_inside, length-put}
use Rattle.volume_make.specs.declared.layout.Layout.{Layout}
use Rattle.volume_make.specs.Layout.{IsFitting, first_of, count_of, alternate_of}
use Rattle.volume_make.specs.Texts.{header_text, bitmap_sector, info_text, journal_text, piece}
use Rattle.volume_make.specs.Written.{Writes, WritesFront, WritesTrees, WritesHeaders, HasParts}

-- a disk that tells its content tells each sector
pub size_of : (disk : State) → IsDisk disk → IsTrue disk.tells → length (content disk) ≡ disk.sectors
size_of disk good tells = length-map disk.candidates last ∙ good.size tells

content_is : (disk : State) (c : Content) → disk.candidates ≡ only c → content disk ≡ c
content_is disk c is = ap content_of is ∙ content_of-only c

-- behind a barrier nothing is pending
pub settled_of : (disk : State) (c : Content) → disk.candidates ≡ only c → HasNothingPending disk
settled_of disk c is = is ∙ ap only (sym (content_is disk c is))

pub writes_none : (first : ℕ) (text : ℕ → List ℕ) (c : Content) → Writes first 0 text c c
writes_none first text c = record {
  size = refl;
  inside = λ k below. absurd (omega (arith, below));
  before = λ at below. refl;
  behind = λ at above. refl;
}

-- one sector more
pub writes_more : (first k : ℕ) (text : ℕ → List ℕ) (old now new : Content) (v : List ℕ) → Writes first k text old now → first + k < length old → new ≡ set now (first + k) v → v ≡ text k → Writes first (k + 1) text old new
writes_more first k text old now new v so_far fits is same =
    let there : first + k < length now = omega (arith, fits, so_far.size) in
    let other : (at : ℕ) → at ≢ first + k → sector new at ≡ sector now at = λ at apart. ap (λ (c : Content). sector c at) is ∙ get_or-set_other now (first + k) at v [] apart in
    let this : sector new (first + k) ≡ v = ap (λ (c : Content). sector c (first + k)) is ∙ get_or-set_same now (first + k) v [] there in
    record {
      size = ap length is ∙ length-set now (first + k) v ∙ so_far.size;
      inside = λ j below. ⊎_elim
          (λ (early : j < k). other (first + j) (λ e. omega (arith, e, early)) ∙ so_far.inside j early)
          (λ (late : k ≤ j). let e : k ≡ j = omega (arith, late, below) in subst (λ n. sector new (first + n) ≡ text n) e (this ∙ same))
          (cases_lt j k);
      before = λ at below. other at (λ e. omega (arith, e, below)) ∙ so_far.before at below;
      behind = λ at above. other at (λ e. omega (arith, e, above)) ∙ so_far.behind at (omega (arith, above));
    }

-- the same on disks
pub disk_writes_more : (first k : ℕ) (text : ℕ → List ℕ) (old now new : State) (v : List ℕ) → IsDisk old → IsTrue old.tells → Writes first k text (content old) (content now) → first + k < old.sectors
    → new.candidates ≡ with_candidate now.candidates (first + k) v → v ≡ text k → Writes first (k + 1) text (content old) (content new)
disk_writes_more first k text old now new v disk tells so_far inside is same =
    writes_more first k text (content old) (content now) (content new) v so_far (omega (arith, inside, size_of old disk tells))
    (ap content_of is ∙ content_of-with_candidate now.candidates (first + k) v) same

pub front_written : (layout : Layout) (c0 c1 c2 c3 : Content) → IsFitting layout
    → Writes (first_of layout layout.bitmap) (count_of layout layout.bitmap) (bitmap_sector layout) c0 c1
    → Writes (first_of layout layout.info) (count_of layout layout.info) (piece (info_text layout)) c1 c2
    → Writes (first_of layout layout.journal) (count_of layout layout.journal) (piece (journal_text layout)) c2 c3
    → WritesFront layout c0 c3
front_written layout c0 c1 c2 c3 fits w1 w2 w3 = record {
  size = w3.size ∙ w2.size ∙ w1.size;
  bitmap = λ k below. w3.before (first_of layout layout.bitmap + k) (omega (arith, fits.info, fits.journal, below))
      ∙ w2.before (first_of layout layout.bitmap + k) (omega (arith, fits.info, below)) ∙ w1.inside k below;
  info = λ k below. w3.before (first_of layout layout.info + k) (omega (arith, fits.journal, below)) ∙ w2.inside k below;
  journal = w3.inside;
  before = λ at below. w3.before at (omega (arith, fits.info, fits.journal, below)) ∙ w2.before at (omega (arith, fits.info, below)) ∙ w1.before at below;
  behind = λ at above. w3.behind at (omega (arith, fits.extents, above)) ∙ w2.behind at (omega (arith, fits.journal, fits.extents, above))
      ∙ w1.behind at (omega (arith, fits.info, fits.journal, fits.extents, above));
}

pub trees_written : (layout : Layout) (overflow marks entries : List ℕ) (c0 c1 c2 c3 : Content) → IsFitting layout
    → Writes (first_of layout layout.extents) (count_of layout layout.extents) (piece overflow) c0 c1
    → Writes (first_of layout layout.attributes) (count_of layout layout.attributes) (piece marks) c1 c2
    → Writes (first_of layout layout.catalog) (count_of layout layout.catalog) (piece entries) c2 c3
    → WritesTrees layout overflow marks entries c0 c3
trees_written layout overflow marks entries c0 c1 c2 c3 fits w1 w2 w3 = record {
  size = w3.size ∙ w2.size ∙ w1.size;
  extents = λ k below. w3.before (first_of layout layout.extents + k) (omega (arith, fits.attributes, fits.catalog, below))
      ∙ w2.before (first_of layout layout.extents + k) (omega (arith, fits.attributes, below)) ∙ w1.inside k below;
  attributes = λ k below. w3.before (first_of layout layout.attributes + k) (omega (arith, fits.catalog, below)) ∙ w2.inside k below;
  catalog = w3.inside;
  before = λ at below. w3.before at (omega (arith, fits.attributes, fits.catalog, below)) ∙ w2.before at (omega (arith, fits.attributes, below)) ∙ w1.before at below;
  behind = λ at above. w3.behind at above ∙ w2.behind at (omega (arith, fits.catalog, above)) ∙ w1.behind at (omega (arith, fits.attributes, fits.catalog, above));
}

-- the parts before a sector of them
module _ (layout : Layout) (fits : IsFitting layout) where
  pub alternate_behind : 3 ≤ alternate_of layout
  alternate_behind = omega (arith, fits.bitmap, fits.info, fits.journal, fits.extents, fits.attributes, fits.catalog, fits.end)

pub headers_written : (layout : Layout) (s0 s1 s2 : State) (header : List ℕ) → IsFitting layout → IsDisk s0 → IsTrue s0.tells → s0.sectors ≡ layout.sectors
    → s1.candidates ≡ only (put_sectors (content s0) (alternate_of layout) (header ∷ [])) → s2.candidates ≡ only (put_sectors (content s1) 2 (header ∷ []))
    → header ≡ header_text layout → WritesHeaders layout (content s0) (content s2)
headers_written layout s0 s1 s2 header fits disk tells sectors w1 w2 is =
    let some = alternate_behind layout fits in
    let long : length (content s0) ≡ layout.sectors = size_of s0 disk tells ∙ sectors in
    let c1 = put_sectors (content s0) (alternate_of layout) (header ∷ []) in
    let fits1 : alternate_of layout + 1 ≤ length (content s0) = omega (arith, long, some) in
    let e1 : content s1 ≡ c1 = content_is s1 c1 w1 in
    let long1 : length (content s1) ≡ length (content s0) = ap length e1 ∙ length-put (content s0) (alternate_of layout) (header ∷ []) fits1 in
    let fits2 : 2 + 1 ≤ length (content s1) = omega (arith, long, long1, some) in
    let c2 = put_sectors (content s1) 2 (header ∷ []) in
    let e2 : content s2 ≡ c2 = content_is s2 c2 w2 in
    let read2 : (at : ℕ) → sector (content s2) at ≡ sector c2 at = λ at. ap (λ (c : Content). sector c at) e2 in
    let read1 : (at : ℕ) → sector (content s1) at ≡ sector c1 at = λ at. ap (λ (c : Content). sector c at) e1 in
    record {
      size = ap length e2 ∙ length-put (content s1) 2 (header ∷ []) fits2 ∙ long1;
      header = read2 2 ∙ put_inside (content s1) 2 (header ∷ []) fits2 0 (omega arith) ∙ is;
      alternate = read2 (alternate_of layout) ∙ put_behind (content s1) 2 (header ∷ []) fits2 (alternate_of layout) (omega (arith, some))
          ∙ read1 (alternate_of layout) ∙ subst (λ n. sector c1 n ≡ header) (add-zero (alternate_of layout)) (put_inside (content s0) (alternate_of layout) (header ∷ []) fits1 0 (omega arith)) ∙ is;
      others = λ at not_header not_alternate.
          let kept2 : sector c2 at ≡ sector (content s1) at = ⊎_elim
          (λ (below : at < 2). put_before (content s1) 2 (header ∷ []) fits2 at below)
          (λ (above : 2 ≤ at). put_behind (content s1) 2 (header ∷ []) fits2 at (⊎_elim (λ (e : at < 3). absurd (not_header (omega (arith, e, above)))) (λ (f : 3 ≤ at). f) (cases_lt at 3)))
          (cases_lt at 2) in
          let kept1 : sector c1 at ≡ sector (content s0) at = ⊎_elim
          (λ (below : at < alternate_of layout). put_before (content s0) (alternate_of layout) (header ∷ []) fits1 at below)
          (λ (above : alternate_of layout ≤ at). put_behind (content s0) (alternate_of layout) (header ∷ []) fits1 at
          (⊎_elim (λ (e : at < alternate_of layout + 1). absurd (not_alternate (omega (arith, e, above)))) (λ (f : alternate_of layout + 1 ≤ at). f) (cases_lt at (alternate_of layout + 1))))
          (cases_lt at (alternate_of layout)) in
          read2 at ∙ kept2 ∙ read1 at ∙ kept1;
    }

-- the whole volume
pub volume_written : (layout : Layout) (overflow marks entries : List ℕ) (c0 c1 c2 c3 : Content) → IsFitting layout
    → WritesFront layout c0 c1 → WritesTrees layout overflow marks entries c1 c2 → WritesHeaders layout c2 c3 → HasParts layout overflow marks entries c0 c3
volume_written layout overflow marks entries c0 c1 c2 c3 fits front trees headers =
    let in_parts : (at : ℕ) → first_of layout layout.bitmap ≤ at → at < first_of layout layout.catalog + count_of layout layout.catalog → sector c3 at ≡ sector c2 at =
    λ at from below. headers.others at (λ e. omega (arith, e, from, fits.bitmap)) (λ e. omega (arith, e, below, fits.end)) in
    record {
      size = headers.size ∙ trees.size ∙ front.size;
      header = headers.header;
      alternate = headers.alternate;
      bitmap = λ k below.
          in_parts (first_of layout layout.bitmap + k) (omega arith) (omega (arith, fits.bitmap, fits.info, fits.journal, fits.extents, fits.attributes, fits.catalog, fits.end, below))
          ∙ trees.before (first_of layout layout.bitmap + k) (omega (arith, fits.bitmap, fits.info, fits.journal, fits.extents, fits.attributes, fits.catalog, fits.end, below)) ∙ front.bitmap k below;
      info = λ k below.
          in_parts (first_of layout layout.info + k) (omega (arith, fits.bitmap, fits.info, fits.journal, fits.extents, fits.attributes, fits.catalog, fits.end)) (omega (arith, fits.bitmap, fits.info, fits.journal, fits.extents, fits.attributes, fits.catalog, fits.end, below))
          ∙ trees.before (first_of layout layout.info + k) (omega (arith, fits.bitmap, fits.info, fits.journal, fits.extents, fits.attributes, fits.catalog, fits.end, below)) ∙ front.info k below;
      journal = λ k below.
          in_parts (first_of layout layout.journal + k) (omega (arith, fits.bitmap, fits.info, fits.journal, fits.extents, fits.attributes, fits.catalog, fits.end)) (omega (arith, fits.bitmap, fits.info, fits.journal, fits.extents, fits.attributes, fits.catalog, fits.end, below))
          ∙ trees.before (first_of layout layout.journal + k) (omega (arith, fits.bitmap, fits.info, fits.journal, fits.extents, fits.attributes, fits.catalog, fits.end, below)) ∙ front.journal k below;
      extents = λ k below. in_parts (first_of layout layout.extents + k) (omega (arith, fits.bitmap, fits.info, fits.journal, fits.extents, fits.attributes, fits.catalog, fits.end)) (omega (arith, fits.bitmap, fits.info, fits.journal, fits.extents, fits.attributes, fits.catalog, fits.end, below)) ∙ trees.extents k below;
      attributes = λ k below. in_parts (first_of layout layout.attributes + k) (omega (arith, fits.bitmap, fits.info, fits.journal, fits.extents, fits.attributes, fits.catalog, fits.end)) (omega (arith, fits.bitmap, fits.info, fits.journal, fits.extents, fits.attributes, fits.catalog, fits.end, below)) ∙ trees.attributes k below;
      catalog = λ k below. in_parts (first_of layout layout.catalog + k) (omega (arith, fits.bitmap, fits.info, fits.journal, fits.extents, fits.attributes, fits.catalog, fits.end)) (omega (arith, fits.bitmap, fits.info, fits.journal, fits.extents, fits.attributes, fits.catalog, fits.end, below)) ∙ trees.catalog k below;
      aside = λ at aside.
          headers.others at aside.header aside.alternate
          ∙ ⊎_elim
          (λ (below : at < first_of layout layout.bitmap). trees.before at (omega (arith, fits.bitmap, fits.info, fits.journal, fits.extents, fits.attributes, fits.catalog, fits.end, below)) ∙ front.before at below)
          (λ (above : first_of layout layout.catalog + count_of layout layout.catalog ≤ at). trees.behind at above ∙ front.behind at (omega (arith, fits.bitmap, fits.info, fits.journal, fits.extents, fits.attributes, fits.catalog, fits.end, above)))
          aside.parts;
    }
