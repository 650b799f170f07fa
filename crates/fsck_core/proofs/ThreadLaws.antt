-- Entries and their threads, by the places of their pairs.
use Rattle.std.proofs.Common.{◌≡◌, ◌≢◌, ◌↔◌, ◌<◌, ◌≤◌, ℕ, zero, suc, ◌+◌, Bool, true, false, not, ◌&&◌, ◌==◌, cond, if◌then◌else◌, List, [], ◌∷◌, length, get_or, set, inl, inr, refl, sym, ◌∙◌, ap, subst, arith, ⊎_elim, length-set, get_or-set_same}
use Rattle.std.specs.Prelude.{Contains, IsTrue, Option, Some, None}
use Rattle.std.specs.Str.{bytes_eq}
use Rattle.std.specs.Ordering.{is_lt, nat_cmp, ordering_then}
use Rattle.std.specs.Cmp.Lexicographic.{slice_cmp}
use Rattle.std.specs.declared.cmp.Ordering.TheVariants.{Less, Equal, Greater}
use Rattle.std.proofs.lemmas.Bool.{true≢false, eqb-true, eq-eqb, and_parts, cases_lt, cases_eq}
use Rattle.std.proofs.lemmas.List.{get_or-map, length-map}
use Rattle.std.proofs.lemmas.Slice.Eq.{bytes_eq-Decides}
use Rattle.btree_node.specs.Levels.{Pair}
use Rattle.btree_node.specs.Keys.{catalog_parent, catalog_units}
use Rattle.cat_records.specs.Records.{catalog_of}
use Rattle.cat_records.specs.declared.record.CatRecord.{CatRecord}
use Rattle.cat_records.specs.declared.record.CatRecord.TheVariants.{Folder, File, Thread}
use Rattle.cat_records.specs.declared.record.ThreadRecord.{ThreadRecord}
use Rattle.hfs_model.specs.Sorted.{IsInOrder}
use Rattle.hfs_volume.specs.Records.{Placed, placed_of, placed_in, placed_before, entries_of, is_thread, is_file, is_empty, id_of}
use Rattle.hfs_volume.specs.Changes.{AreSorted}
use Rattle.hfs_volume.specs.Entries.{AreThreaded, HasThread, IsThreadOf}
use Rattle.hfs_volume.specs.Broken as broken
use Rattle.hfs_volume.specs.Broken.{IsFailed, FailsThread}
use Rattle.hfs_volume.proofs.Members.{all_of, each_of}
use Rattle.hfs_volume.proofs.Sides.{is_entry_of, entry_is_record, entry_is_named}
use Rattle.fsck_list.specs.declared.finding.Finding.{Finding}
use Rattle.fsck_core.specs.Decided.{Adds, Decided, AllPass, IsMissed}
use Rattle.fsck_core.specs.Parents.{marked}
use Rattle.fsck_core.specs.Catalogs.{IsCatalog}
use Rattle.fsck_core.specs.Names.{pair_at}
use Rattle.fsck_core.specs.Rows.{row_of}
use Rattle.fsck_core.specs.Kinds.{row_in}
use Rattle.fsck_core.specs.Threads.{placed_at, IsSplit, same_bit, is_thread_of, IsItsThread, IsThreadAt, IsMatch, AreMatched, place_of}
use Rattle.fsck_core.specs.declared.rows.Row.{Row}
use Rattle.fsck_core.proofs.RowLaws.{not_below}
use Rattle.fsck_core.proofs.DecidedLaws.{adds_so, decided_as}
use Rattle.fsck_core.proofs.NameLaws.{number_or}
use Rattle.fsck_core.proofs.KindLaws.{parent_is}
use Rattle.fsck_core.proofs.EntryLaws.{parents_before}
use Rattle.fsck_core.proofs.ParentLaws.{keeps_mark, mark_back}

empty_is : (name : List ℕ) → is_empty name ≡ true → name ≡ []
empty_is [] is = refl
empty_is (unit ∷ units) is = absurd (true≢false (sym is))

-- ---- pairs in order

by_each : {X : Type 0} (before : X → X → Bool) (x : X) (xs : List X) → IsInOrder before (x ∷ xs) → (k : ℕ) (d : X) → k < length xs → before x (get_or xs k d) ≡ true
by_each before x [] order k d inside = absurd (omega (arith, inside))
by_each before x (y ∷ ys) order zero d inside = order.0.0
by_each before x (y ∷ ys) order (suc k) d inside = by_each before x ys (order.0.1, order.1.1) k d (omega (arith, inside))

-- of two places the earlier has what comes before
pub order_at : {X : Type 0} (before : X → X → Bool) (xs : List X) → IsInOrder before xs → (i j : ℕ) (d : X) → i < j → j < length xs → before (get_or xs i d) (get_or xs j d) ≡ true
order_at before [] order i j d less inside = absurd (omega (arith, inside))
order_at before (x ∷ xs) order zero zero d less inside = absurd (omega (arith, less))
order_at before (x ∷ xs) order zero (suc j) d less inside = by_each before x xs order j d (omega (arith, inside))
order_at before (x ∷ xs) order (suc i) zero d less inside = absurd (omega (arith, less))
order_at before (x ∷ xs) order (suc i) (suc j) d less inside = order_at before xs order.1 i j d (omega (arith, less)) (omega (arith, inside))

placed_is : (pairs : List Pair) (k : ℕ) (d : Placed) → k < length pairs → get_or (placed_in pairs) k d ≡ placed_at pairs k
placed_is pairs k d inside = get_or-map placed_of pairs k ([], []) d inside

pub record_stands : (pairs : List Pair) (k : ℕ) → k < length pairs → Contains (placed_in pairs) (placed_at pairs k)
record_stands pairs k inside = (k, omega (arith, inside, length-map pairs placed_of), placed_is pairs k (placed_at pairs k) inside)

pub place_of_record : (pairs : List Pair) (placed : Placed) → Contains (placed_in pairs) placed → (k : ℕ) × (k < length pairs) × (placed_at pairs k ≡ placed)
place_of_record pairs placed stands =
    let inside : stands.0 < length pairs = omega (arith, stands.1, length-map pairs placed_of) in
    (stands.0, inside, sym (placed_is pairs stands.0 placed inside) ∙ stands.2)

before_at : (pairs : List Pair) → AreSorted pairs → (i j : ℕ) → i < j → j < length pairs → placed_before (placed_at pairs i) (placed_at pairs j) ≡ true
before_at pairs sorted i j less inside =
    let d : Placed = placed_at pairs i in
    sym (λ k. placed_before (placed_is pairs i d (omega (arith, less, inside)) k) (placed_is pairs j d inside k)) ∙ order_at placed_before (placed_in pairs) sorted i j d less (omega (arith, inside, length-map pairs placed_of))

pub parents_rise : (pairs : List Pair) → AreSorted pairs → (i j : ℕ) → i ≤ j → j < length pairs → (placed_at pairs i).parent ≤ (placed_at pairs j).parent
parents_rise pairs sorted i j most inside = ⊎_elim
    (λ (same : i ≡ j). let equal : (placed_at pairs i).parent ≡ (placed_at pairs j).parent = ap (λ k. (placed_at pairs k).parent) same in omega (arith, equal))
    (λ (other : i ≢ j). parents_before (placed_at pairs i) (placed_at pairs j) (before_at pairs sorted i j (omega (arith, most, other)) inside))
    (cases_eq i j)

same_number : (n : ℕ) → nat_cmp n n ≡ Equal
same_number n = λ i. cond (not_below n n (omega arith) i) Less (cond (eq-eqb n n refl i) Equal Greater)

-- nothing of the same parent comes before a record without a name
nameless_first : (p q : Placed) → p.parent ≡ q.parent → is_empty q.name ≡ true → placed_before p q ≡ true → ⊥
nameless_first p q same none before =
    let name : q.name ≡ [] = empty_is q.name none in
    let by_name : is_lt (ordering_then (nat_cmp q.parent q.parent) (slice_cmp nat_cmp p.name [])) ≡ true = sym (λ i. is_lt (ordering_then (nat_cmp (same i) q.parent) (slice_cmp nat_cmp p.name (name i)))) ∙ before in
    no_less p.name (sym (ap (λ o. is_lt (ordering_then o (slice_cmp nat_cmp p.name []))) (same_number q.parent)) ∙ by_name)
  where
    no_less : (name : List ℕ) → is_lt (slice_cmp nat_cmp name []) ≡ true → ⊥
    no_less [] is = true≢false (sym is)
    no_less (x ∷ xs) is = true≢false (sym is)

-- ---- the place where the pairs of a parent begin

pub split_more : (pairs : List Pair) (parent low mid : ℕ) → AreSorted pairs → mid < length pairs → (placed_at pairs mid).parent < parent → (k : ℕ) → k < mid + 1 → k < length pairs → (placed_at pairs k).parent < parent
split_more pairs parent low mid sorted inside less k under within = let rise = parents_rise pairs sorted k mid (omega (arith, under)) inside in omega (arith, rise, less)

pub split_less : (pairs : List Pair) (parent mid : ℕ) → AreSorted pairs → parent ≤ (placed_at pairs mid).parent → (k : ℕ) → mid ≤ k → k < length pairs → parent ≤ (placed_at pairs k).parent
split_less pairs parent mid sorted most k above within = let rise = parents_rise pairs sorted mid k above within in omega (arith, rise, most)

-- the thread of a row stands there, if it stands anywhere
pub thread_place : (pairs : List Pair) (row : Row) (name : List ℕ) (at other : ℕ) → AreSorted pairs → IsSplit pairs row.id at → IsThreadAt pairs row name other → other ≡ at
thread_place pairs row name at other sorted split thread = ⊎_elim
    (λ (low : other < at). absurd (let less = split.below other low thread.inside in omega (arith, less, thread.is.parent)))
    (λ (high : at ≤ other). ⊎_elim
    (λ (same : other ≡ at). same)
    (λ (differ : other ≢ at).
    let less : at < other = omega (arith, high, differ) in
    let rise = parents_rise pairs sorted at other high thread.inside in
    let least = split.rest at (omega arith) (omega (arith, less, thread.inside)) in
    let same : (placed_at pairs at).parent ≡ (placed_at pairs other).parent = omega (arith, rise, least, thread.is.parent) in
    absurd (nameless_first (placed_at pairs at) (placed_at pairs other) same thread.is.no_name (before_at pairs sorted at other less thread.inside)))
    (cases_eq other at))
    (cases_lt other at)

-- ---- a thread and its entry

same_bits : (a b : Bool) → same_bit a b ≡ true → a ≡ b
same_bits true b is = sym is
same_bits false true is = absurd (true≢false (sym is))
same_bits false false is = refl

bits_same : (a b : Bool) → a ≡ b → same_bit a b ≡ true
bits_same true b is = sym is
bits_same false b is = ap not (sym is)

-- what is told of a value is told of the thread that it is
told : (value : CatRecord) (row : Row) (name : List ℕ) → is_thread_of value row name ≡ true → (thread : ThreadRecord) × (value ≡ Thread thread) × (thread.parent ≡ row.parent) × (thread.name ≡ name) × (thread.of_file ≡ row.file)
told (Folder folder) row name is = absurd (true≢false (sym is))
told (File file) row name is = absurd (true≢false (sym is))
told (Thread thread) row name is =
    let a = and_parts (thread.parent == row.parent) (same_bit thread.of_file row.file && bytes_eq name thread.name) is in
    let b = and_parts (same_bit thread.of_file row.file) (bytes_eq name thread.name) a.1 in
    (thread, refl, eqb-true thread.parent row.parent a.0, sym ((bytes_eq-Decides name thread.name).0 b.1), same_bits thread.of_file row.file b.0)

tells_so : (value : CatRecord) (thread : ThreadRecord) (entry : Placed) → value ≡ Thread thread → IsThreadOf entry thread → is_thread_of value (row_of entry) entry.name ≡ true
tells_so value thread entry is of =
    ap (λ v. is_thread_of v (row_of entry) entry.name) is
    ∙ (λ i. (eq-eqb thread.parent entry.parent of.parent i) && (bits_same thread.of_file (is_file entry.value) of.kind i && (bytes_eq-Decides entry.name thread.name).1 (sym of.name) i))

abbrev thread_or : CatRecord → ThreadRecord → ThreadRecord
thread_or (Folder folder) d = d
thread_or (File file) d = d
thread_or (Thread thread) d = thread

module _ (pairs : List Pair) where
  abbrev records : List Placed
  records = placed_in pairs

  -- the thread that a match tells
  matched_thread : (entry thread : ℕ) → IsMatch pairs entry thread → (t : ThreadRecord) × ((placed_at pairs thread).value ≡ Thread t) × IsThreadOf (placed_at pairs entry) t
  matched_thread entry thread match =
      let own = told (placed_at pairs thread).value (row_of (placed_at pairs entry)) (placed_at pairs entry).name match.thread_at.is.tells in
      (own.0, own.1, record { parent = own.2; name = own.3; kind = own.4 })

  pub match_has : (entry thread : ℕ) → IsMatch pairs entry thread → HasThread (placed_in pairs) (placed_at pairs entry)
  match_has entry thread match =
      let own = matched_thread entry thread match in
      (placed_at pairs thread, record_stands pairs thread match.thread_at.inside, match.thread_at.is.parent, empty_is (placed_at pairs thread).name match.thread_at.is.no_name, own.0, own.1, own.2)

  match_from : (k t : ℕ) (entry placed : Placed) (thread : ThreadRecord) → k < length pairs → t < length pairs → placed_at pairs k ≡ entry → placed_at pairs t ≡ placed → is_empty entry.name ≡ false → placed.parent ≡ id_of entry
      → is_empty placed.name ≡ true → placed.value ≡ Thread thread → IsThreadOf entry thread → IsMatch pairs k t
  match_from k t entry placed thread inside_k inside_t is_k is_t named parent no_name value of = record {
    inside = inside_k;
    named = ap (λ (p : Placed). is_empty p.name) is_k ∙ named;
    thread_at = record {
      inside = inside_t;
      is = subst (λ (p : Placed). IsItsThread (row_of p) p.name (placed_at pairs t)) (sym is_k) (subst (λ (p : Placed). IsItsThread (row_of entry) entry.name p) (sym is_t)
          (record { parent = parent; no_name = no_name; tells = tells_so placed.value thread entry value of }));
    };
  }

  -- an entry that has a thread is matched
  pub has_match : (k : ℕ) (entry : Placed) → k < length pairs → placed_at pairs k ≡ entry → is_empty entry.name ≡ false → HasThread (placed_in pairs) entry → (thread : ℕ) × IsMatch pairs k thread
  has_match k entry inside is named (placed, stands, parent, name, thread, value, of) =
      let at = place_of_record pairs placed stands in
      (at.0, match_from k at.0 entry placed thread inside at.1 is at.2 named parent (ap is_empty name) value of)

  -- ---- one entry more

  pub matched_none : (marks : List Bool) → ((k : ℕ) → marked marks k ≡ false) → AreMatched pairs marks 0
  matched_none marks none = record {
    sound = λ k is. absurd (true≢false (sym is ∙ none k));
    entries = λ k thread less. absurd (omega (arith, less));
    threads = λ entry thread less. absurd (omega (arith, less));
  }

  module _ (marks : List Bool) (at : ℕ) (are : AreMatched pairs marks at) where
    pub match_not : ((thread : ℕ) → IsMatch pairs at thread → ⊥) → AreMatched pairs marks (at + 1)
    match_not none = record {
      sound = λ k is. ⊎_elim
          (λ (own : (thread : ℕ) × (k < at) × IsMatch pairs k thread). inl (own.0, omega (arith, own.1), own.2))
          (λ (other : (entry : ℕ) × (entry < at) × IsMatch pairs entry k). inr (other.0, omega (arith, other.1), other.2))
          (are.sound k is);
      entries = λ k thread less match. ⊎_elim
          (λ (same : k ≡ at). absurd (none thread (subst (λ n. IsMatch pairs n thread) same match)))
          (λ (differ : k ≢ at). are.entries k thread (omega (arith, less, differ)) match)
          (cases_eq k at);
      threads = λ entry thread less match. ⊎_elim
          (λ (same : entry ≡ at). absurd (none thread (subst (λ n. IsMatch pairs n thread) same match)))
          (λ (differ : entry ≢ at). are.threads entry thread (omega (arith, less, differ)) match)
          (cases_eq entry at);
    }

    pub match_more : (thread : ℕ) (more : List Bool) → length marks ≡ length pairs → IsMatch pairs at thread → ((other : ℕ) → IsMatch pairs at other → other ≡ thread) → more ≡ set (set marks at true) thread true → AreMatched pairs more (at + 1)
    match_more thread more long match only more_is = record {
      sound = λ k is. ⊎_elim
          (λ (here : k ≡ thread). inr (at, omega arith, subst (IsMatch pairs at) (sym here) match))
          (λ (rest : marked (set marks at true) k ≡ true). ⊎_elim
          (λ (here : k ≡ at). inl (thread, omega (arith, here), subst (λ n. IsMatch pairs n thread) (sym here) match))
          (λ (old : marked marks k ≡ true). ⊎_elim
          (λ (own : (t : ℕ) × (k < at) × IsMatch pairs k t). inl (own.0, omega (arith, own.1), own.2))
          (λ (other : (entry : ℕ) × (entry < at) × IsMatch pairs entry k). inr (other.0, omega (arith, other.1), other.2))
          (are.sound k old))
          (mark_back marks at k rest))
          (mark_back (set marks at true) thread k (sym (ap (λ (l : List Bool). marked l k) more_is) ∙ is));
      entries = λ k t less own. ⊎_elim
          (λ (same : k ≡ at). subst (λ n. marked more n ≡ true) (sym same) (still at (get_or-set_same marks at true false inside)))
          (λ (differ : k ≢ at). still k (keeps_mark marks at k inside (are.entries k t (omega (arith, less, differ)) own)))
          (cases_eq k at);
      threads = λ entry t less own. ⊎_elim
          (λ (same : entry ≡ at).
          subst (λ n. marked more n ≡ true) (sym (only t (subst (λ n. IsMatch pairs n t) same own))) (ap (λ (l : List Bool). marked l thread) more_is ∙ get_or-set_same (set marks at true) thread true false inside_thread))
          (λ (differ : entry ≢ at). still t (keeps_mark marks at t inside (are.threads entry t (omega (arith, less, differ)) own)))
          (cases_eq entry at);
    }
      where
        inside : at < length marks
        inside = omega (arith, match.inside, long)

        inside_thread : thread < length (set marks at true)
        inside_thread = omega (arith, match.thread_at.inside, long, length-set marks at true)

        still : (k : ℕ) → marked (set marks at true) k ≡ true → marked more k ≡ true
        still k is = ap (λ (l : List Bool). marked l k) more_is ∙ keeps_mark (set marks at true) thread k inside_thread is

  -- ---- all of them

  module _ (catalog : IsCatalog pairs) (marks : List Bool) (are : AreMatched pairs marks (length pairs)) where
    thread_value : (value : CatRecord) → is_thread value ≡ true → (thread : ThreadRecord) × (value ≡ Thread thread)
    thread_value (Folder folder) is = absurd (true≢false (sym is))
    thread_value (File file) is = absurd (true≢false (sym is))
    thread_value (Thread thread) is = (thread, refl)

    kind_at : (placed : Placed) → Contains (placed_in pairs) placed → is_thread placed.value ≡ is_empty placed.name
    kind_at placed stands = each_of (λ (p : Placed). is_thread p.value ≡ is_empty p.name) (placed_in pairs) catalog.kinds placed stands

    pub threads_hold : AllPass (marked marks) (length pairs) → AreThreaded pairs
    threads_hold all = record {
      spelled = catalog.spelled;
      kinds = catalog.kinds;
      threaded = all_of (HasThread records) (entries_of records) (λ entry stands.
          let at = place_of_record pairs entry (entry_is_record records entry stands) in
          let named : is_empty (placed_at pairs at.0).name ≡ false = ap (λ (p : Placed). is_empty p.name) at.2 ∙ entry_is_named records entry stands in
          ⊎_elim
          (λ (own : (thread : ℕ) × (at.0 < length pairs) × IsMatch pairs at.0 thread). subst (HasThread records) at.2 (match_has at.0 own.0 own.2))
          (λ (other : (k : ℕ) × (k < length pairs) × IsMatch pairs k at.0). absurd (true≢false (sym other.2.thread_at.is.no_name ∙ named)))
          (are.sound at.0 (all at.0 at.1)));
      named = λ placed thread stands value.
          let at = place_of_record pairs placed stands in
          let none : is_empty (placed_at pairs at.0).name ≡ true = ap (λ (p : Placed). is_empty p.name) at.2 ∙ sym (kind_at placed stands) ∙ ap is_thread value in
          ⊎_elim
          (λ (own : (t : ℕ) × (at.0 < length pairs) × IsMatch pairs at.0 t). absurd (true≢false (sym none ∙ own.2.named)))
          (λ (other : (k : ℕ) × (k < length pairs) × IsMatch pairs k at.0).
          let own = matched_thread other.0 at.0 other.2 in
          let entry : Placed = placed_at pairs other.0 in
          let same : own.0 ≡ thread = ap (λ v. thread_or v own.0) (sym own.1 ∙ ap (λ (p : Placed). p.value) at.2 ∙ value) in
          (entry, is_entry_of records entry (record_stands pairs other.0 other.2.inside) other.2.named, sym other.2.thread_at.is.parent ∙ ap (λ (p : Placed). p.parent) at.2, subst (IsThreadOf entry) same own.2))
          (are.sound at.0 (all at.0 at.1));
    }

    -- an entry with its thread is marked
    has_mark : (k : ℕ) → k < length pairs → is_empty (placed_at pairs k).name ≡ false → HasThread records (placed_at pairs k) → marked marks k ≡ true
    has_mark k inside named has = let own = has_match k (placed_at pairs k) inside refl named has in are.entries k own.0 inside own.1

    -- a thread with its entry is
    its_mark : (k : ℕ) (thread : ThreadRecord) (entry : Placed) → k < length pairs → is_empty (placed_at pairs k).name ≡ true → (placed_at pairs k).value ≡ Thread thread → Contains (entries_of records) entry → id_of entry ≡ (placed_at pairs k).parent
        → IsThreadOf entry thread → marked marks k ≡ true
    its_mark k thread entry inside none value stands id of =
        let at = place_of_record pairs entry (entry_is_record records entry stands) in
        are.threads at.0 k at.1 (match_from at.0 k entry (placed_at pairs k) thread at.1 inside at.2 refl (entry_is_named records entry stands) (sym id) none value of)

    pub threads_pass : AreThreaded pairs → AllPass (marked marks) (length pairs)
    threads_pass threads k inside = at (is_empty (placed_at pairs k).name) refl
      where
        at : (b : Bool) → is_empty (placed_at pairs k).name ≡ b → marked marks k ≡ true
        at false named =
            has_mark k inside named (each_of (HasThread records) (entries_of records) threads.threaded (placed_at pairs k) (is_entry_of records (placed_at pairs k) (record_stands pairs k inside) named))
        at true none =
            let own = thread_value (placed_at pairs k).value (kind_at (placed_at pairs k) (record_stands pairs k inside) ∙ none) in
            let entry = threads.named (placed_at pairs k) own.0 (record_stands pairs k inside) own.1 in
            its_mark k own.0 entry.0 inside none own.1 entry.1 entry.2 entry.3

    pub thread_fails : (f : broken.Finding) → IsMissed 9 (marked marks) (λ k. place_of (placed_at pairs k)) (length pairs) f → IsFailed 9 f (FailsThread (placed_in pairs))
    thread_fails f missed = (missed.0, missed.1, missed.2, at (is_empty (placed_at pairs k).name) refl)
      where
        k : ℕ
        k = missed.3.0

        inside : k < length pairs
        inside = missed.3.1

        at : (b : Bool) → is_empty (placed_at pairs k).name ≡ b → FailsThread (placed_in pairs) f.place
        at false named =
            inl (
              placed_at pairs k,
              is_entry_of records (placed_at pairs k) (record_stands pairs k inside) named,
              sym (ap (λ b. if b then (placed_at pairs k).parent else id_of (placed_at pairs k)) named) ∙ missed.3.2,
              λ has. true≢false (sym (has_mark k inside named has) ∙ missed.3.3),
            )
        at true none =
            let own = thread_value (placed_at pairs k).value (kind_at (placed_at pairs k) (record_stands pairs k inside) ∙ none) in
            let place : (placed_at pairs k).parent ≡ f.place = sym (ap (λ b. if b then (placed_at pairs k).parent else id_of (placed_at pairs k)) none) ∙ missed.3.2 in
            inr (
              placed_at pairs k,
              own.0,
              record_stands pairs k inside,
              own.1,
              place,
              λ entry stands id of. true≢false (sym (its_mark k own.0 entry inside none own.1 stands (id ∙ sym place) of) ∙ missed.3.3),
            )

-- ---- what is told of bytes

module _ (row : Row) (name other value : List ℕ) where
  pub no_thread_parent : (parent : ℕ) → parent ≡ catalog_parent other → parent ≢ row.id → IsTrue false ↔ IsItsThread row name (placed_of (other, value))
  unfolding placed_of
  no_thread_parent parent is differ = (λ wrong. absurd (true≢false (sym wrong)), λ thread. absurd (differ (is ∙ thread.parent)))

  pub no_thread_name : (none : Bool) → none ≡ is_empty (catalog_units other) → none ≡ false → IsTrue false ↔ IsItsThread row name (placed_of (other, value))
  unfolding placed_of
  no_thread_name none is some = (λ wrong. absurd (true≢false (sym wrong)), λ thread. absurd (true≢false (sym thread.no_name ∙ sym is ∙ some)))

  pub thread_tells : (parent : ℕ) (none met : Bool) (rec : CatRecord) → parent ≡ catalog_parent other → parent ≡ row.id → none ≡ is_empty (catalog_units other) → none ≡ true → rec ≡ catalog_of value → met ≡ is_thread_of rec row name
      → IsTrue met ↔ IsItsThread row name (placed_of (other, value))
  unfolding placed_of
  thread_tells parent none met rec parent_is same none_is no_name read is = (
    λ holds. record { parent = sym parent_is ∙ same; no_name = sym none_is ∙ no_name; tells = ap (λ v. is_thread_of v row name) (sym read) ∙ sym is ∙ holds },
    λ thread. is ∙ ap (λ v. is_thread_of v row name) read ∙ thread.tells,
  )

abbrev row_or : Option Row → Row → Row
row_or None d = d
row_or (Some row) d = row

-- a pair with a name is a row, and one without is none
pub named_row : (placed : Placed) (row : Row) → Some row ≡ row_in placed → (is_empty placed.name ≡ false) × (row ≡ row_of placed)
named_row placed row is = at (is_empty placed.name) refl
  where
    at : (b : Bool) → is_empty placed.name ≡ b → (is_empty placed.name ≡ false) × (row ≡ row_of placed)
    at true same = absurd (none_some (is ∙ ap (λ b. if b then None else Some (row_of placed)) same))
      where
        none_some : Some row ≡ None → ⊥
        none_some wrong = cc
    at false same = (same, ap (λ o. row_or o row) (is ∙ ap (λ b. if b then None else Some (row_of placed)) same))

pub no_row_named : (placed : Placed) → None ≡ row_in placed → is_empty placed.name ≡ true
no_row_named placed is = at (is_empty placed.name) refl
  where
    at : (b : Bool) → is_empty placed.name ≡ b → is_empty placed.name ≡ true
    at true same = same
    at false same = absurd (none_some (is ∙ ap (λ b. if b then None else Some (row_of placed)) same))
      where
        none_some : None ≡ Some (row_of placed) → ⊥
        none_some wrong = cc

pub place_none : (key value : List ℕ) (parent : ℕ) → None ≡ row_in (placed_of (key, value)) → parent ≡ catalog_parent key → parent ≡ place_of (placed_of (key, value))
place_none key value parent none is =
    is ∙ sym (parent_is (key, value)) ∙ sym (ap (λ b. if b then (placed_of (key, value)).parent else id_of (placed_of (key, value))) (no_row_named (placed_of (key, value)) none))

pub place_some : (placed : Placed) (row : Row) → Some row ≡ row_in placed → row.id ≡ place_of placed
place_some placed row is =
    let own = named_row placed row is in
    ap (λ (r : Row). r.id) own.1 ∙ sym (ap (λ b. if b then placed.parent else id_of placed) own.0)

pub key_long : (pairs : List Pair) (k : ℕ) (key : List ℕ) → IsCatalog pairs → k < length pairs → key ≡ (pair_at pairs k).0 → 8 ≤ length key
key_long pairs k key catalog inside is = subst (λ (l : List ℕ). 8 ≤ length l) (sym is) (catalog.keys k ([], []) inside).long

-- the parent in a key is that of its record
pub parent_at : (pairs : List Pair) (k parent : ℕ) (key : List ℕ) → key ≡ (pair_at pairs k).0 → parent ≡ catalog_parent key → parent ≡ (placed_at pairs k).parent
parent_at pairs k parent key key_is is = is ∙ ap catalog_parent key_is ∙ sym (parent_is (pair_at pairs k))

name_at : (pairs : List Pair) (k : ℕ) (key : List ℕ) → key ≡ (pair_at pairs k).0 → catalog_units key ≡ (placed_at pairs k).name
unfolding placed_of
name_at pairs k key key_is = ap catalog_units key_is

module _ (pairs : List Pair) (row : Row) (name : List ℕ) (place : ℕ) (sorted : AreSorted pairs) (split : IsSplit pairs row.id place) where
  none_some : (at : ℕ) → None ≡ Some at → ⊥
  none_some at wrong = cc

  pub not_found : (¬ IsThreadAt pairs row name place) → (at : ℕ) → (None ≡ Some at) ↔ IsThreadAt pairs row name at
  not_found other at = (λ wrong. absurd (none_some at wrong), λ thread. absurd (other (subst (IsThreadAt pairs row name) (thread_place pairs row name place at sorted split thread) thread)))

  pub found_at : IsThreadAt pairs row name place → (at : ℕ) → (Some place ≡ Some at) ↔ IsThreadAt pairs row name at
  found_at thread at = (
    λ same. subst (IsThreadAt pairs row name) (ap (λ o. number_or o place) same) thread,
    λ own. ap Some (sym (thread_place pairs row name place at sorted split own)),
  )

-- the thread of a pair that is a row, in other words
module _ (pairs : List Pair) (at : ℕ) (row : Row) (key value : List ℕ) (key_is : key ≡ (pair_at pairs at).0) (value_is : value ≡ (pair_at pairs at).1) where
  abbrev here : (key, value) ≡ pair_at pairs at
  here = λ i. (key_is i, value_is i)

  pub no_match : None ≡ row_in (placed_of (key, value)) → (thread : ℕ) → IsMatch pairs at thread → ⊥
  no_match none thread match = true≢false (sym (no_row_named (placed_at pairs at) (none ∙ ap (λ (p : Pair). row_in (placed_of p)) here)) ∙ match.named)

  its_row : Some row ≡ row_in (placed_of (key, value)) → (is_empty (placed_at pairs at).name ≡ false) × (row ≡ row_of (placed_at pairs at))
  its_row is = named_row (placed_at pairs at) row (is ∙ ap (λ (p : Pair). row_in (placed_of p)) here)

  pub match_thread : Some row ≡ row_in (placed_of (key, value)) → (thread : ℕ) → IsMatch pairs at thread → IsThreadAt pairs row (catalog_units key) thread
  match_thread is thread match =
      subst (λ (n : List ℕ). IsThreadAt pairs row n thread) (sym (name_at pairs at key key_is)) (subst (λ (r : Row). IsThreadAt pairs r (placed_at pairs at).name thread) (sym (its_row is).1) match.thread_at)

  pub thread_match : at < length pairs → Some row ≡ row_in (placed_of (key, value)) → (thread : ℕ) → IsThreadAt pairs row (catalog_units key) thread → IsMatch pairs at thread
  thread_match inside is thread found = record {
    inside = inside;
    named = (its_row is).0;
    thread_at = subst (λ (r : Row). IsThreadAt pairs r (placed_at pairs at).name thread) (its_row is).1 (subst (λ (n : List ℕ). IsThreadAt pairs row n thread) (name_at pairs at key key_is) found);
  }

-- two threads of one row are one
pub one_thread : (found : Option ℕ) (a b : ℕ) → found ≡ Some a → found ≡ Some b → a ≡ b
one_thread found a b one other = ap (λ o. number_or o a) (sym one ∙ other)

-- ---- the rule

module _ (pairs : List Pair) (catalog : IsCatalog pairs) (marks : List Bool) (are : AreMatched pairs marks (length pairs)) where
  abbrev Says : broken.Finding → Type 0
  Says f = IsFailed 9 f (FailsThread (placed_in pairs))

  pub threads_decided : (old new : List Finding) (met : Bool) → Decided (IsMissed 9 (marked marks) (λ k. place_of (placed_at pairs k)) (length pairs)) (AllPass (marked marks) (length pairs)) old new met
      → Decided (λ f. IsFailed 9 f (FailsThread (placed_in pairs))) (AreThreaded pairs) old new met
  threads_decided old new met decided =
      decided_as (IsMissed 9 (marked marks) (λ k. place_of (placed_at pairs k)) (length pairs)) Says (AllPass (marked marks) (length pairs)) (AreThreaded pairs) old new met (thread_fails pairs catalog marks are) (threads_hold pairs catalog marks are) (threads_pass pairs catalog marks are) decided

  pub threads_add : (old new : List Finding) → Adds (IsMissed 9 (marked marks) (λ k. place_of (placed_at pairs k)) (length pairs)) old new → Adds (λ f. IsFailed 9 f (FailsThread (placed_in pairs))) old new
  threads_add old new each = adds_so (IsMissed 9 (marked marks) (λ k. place_of (placed_at pairs k)) (length pairs)) Says old new (thread_fails pairs catalog marks are) each
