-- What an edit of one pair does to the records of a fork, and to those of all others.
use Rattle.std.proofs.Common.{◌≡◌, ℕ, zero, suc, ◌+◌, ◌<◌, ◌≤◌, Bool, true, false, List, [], ◌∷◌, ◌++◌, length, map, take, drop, inl, inr, refl, sym, ◌∙◌, ap, subst, arith}
use Rattle.std.specs.Prelude.{slice_index_or, not, if◌then◌else◌}
use Rattle.std.specs.Ordering.{ordering_reverse}
use Rattle.std.specs.declared.cmp.Ordering.{Ordering}
use Rattle.std.specs.declared.cmp.Ordering.TheVariants.{Less, Equal, Greater}
use Rattle.std.proofs.lemmas.Cmp.{alike_right}
use Rattle.std.proofs.lemmas.List.{get_or-map, length-map, map-append, take-append-drop, get_or-take, get_or-drop, length-take, length-drop}
use Rattle.std.proofs.Math.Seq.{drop-cons}
use Rattle.btree_node.specs.KeyLaws.{extent_total}
use Rattle.btree_node.specs.Keys.{IsExtentKey, extent_cmp, extent_file, extent_fork}
use Rattle.btree_node.specs.Levels.{Pair, Ascends, pair_of, key_of, entries, level, leaves}
use Rattle.btree_node.specs.Store.{Store}
use Rattle.btree_node.specs.Tree.{IsTree, pairs_of}
use Rattle.btree_edit.specs.Desk.{HasKey}
use Rattle.btree_edit.specs.Sorted.{AddsPair, DropsPair, ChangesPair}
use Rattle.hx_bytes.specs.Fork.{extents_at}
use Rattle.hfs_model.specs.Sorted.{kept}
use Rattle.hfs_volume.specs.Forks.{is_of}
use Rattle.hfs_volume.specs.Records.{Overflow, overflow_of}
use Rattle.overflow.specs.Changes.{put_record}
use Rattle.overflow.specs.Making.{has_start}
use Rattle.overflow.specs.Records.{under}
use Rattle.overflow.specs.declared.record.OverflowRecord.{OverflowRecord}
use Rattle.overflow.specs.Keys.{IsKeyOf}
use Rattle.overflow.proofs.Keys.{below_of, above_of, ties_of, equal_by, of_fork, fork_of, start_of}
use Rattle.overflow.proofs.Lists.{AreBelow, AreFrom, kept_append, other_start, put_between, put_over, taken_out, first_or_later, no_start_stay, start_stands}

abbrev pub no_pair : Pair
no_pair = ([], [])

abbrev pub pair_at : List Pair → ℕ → Pair
pair_at pairs k = slice_index_or pairs k no_pair

-- the keys of the pairs rise strictly
abbrev pub AscendByKey : List Pair → Type 0
AscendByKey pairs = (i j : ℕ) → i < j → j < length pairs → extent_cmp (pair_at pairs i).0 (pair_at pairs j).0 ≡ Less

-- the pairs of a tree rise by their keys
pub tree_ascends : (store : Store) → IsTree IsExtentKey extent_cmp store → AscendByKey (pairs_of store)
tree_ascends store tree = by_depth store.shape.depth refl
  where
    ascending : (xs : List (List ℕ)) → Ascends extent_cmp xs → AscendByKey (map pair_of xs)
    ascending xs rises i j before fits =
        let inside : j < length xs = omega (arith, fits, length-map xs pair_of) in
        ap (λ (pair : Pair). extent_cmp pair.0 (pair_at (map pair_of xs) j).0) (get_or-map pair_of xs i [] no_pair (omega (arith, before, inside)))
        ∙ ap (λ (pair : Pair). extent_cmp (key_of (slice_index_or xs i [])) pair.0) (get_or-map pair_of xs j [] no_pair inside)
        ∙ rises i j before inside

    by_depth : (depth : ℕ) → store.shape.depth ≡ depth → AscendByKey (leaves store.nodes store.shape.root depth)
    by_depth zero is = λ i j before fits. absurd (omega (arith, fits))
    by_depth (suc below) is = ascending (entries store.nodes (level store.nodes store.shape.root below)) (tree.ordered.ascends below (omega (arith, is)))

-- the records of a fork in some pairs, and those of all others
abbrev pub of_fork_in : ℕ → ℕ → List Pair → List Overflow
of_fork_in id kind pairs = kept (is_of id kind) (map overflow_of pairs)

abbrev pub of_others_in : ℕ → ℕ → List Pair → List Overflow
of_others_in id kind pairs = kept (λ more. not (is_of id kind more)) (map overflow_of pairs)

module _ (id kind start : ℕ) (key : List ℕ) (is : IsKeyOf id kind start key) where
  -- ---- one pair

  fork_pair : (pair : Pair) (o : Ordering) → extent_cmp pair.0 key ≡ o → is_of id kind (overflow_of pair) ≡ true → (extent_file pair.0 ≡ extent_file key) × (extent_fork pair.0 ≡ extent_fork key)
  fork_pair pair o tells of = let parts = fork_of id kind pair of in (parts.0 ∙ sym is.file, parts.1 ∙ sym is.fork)

  pub less_starts : (pair : Pair) → extent_cmp pair.0 key ≡ Less → is_of id kind (overflow_of pair) ≡ true → (overflow_of pair).start < start
  less_starts pair less of =
      let parts = fork_pair pair Less less of in
      let below = below_of pair.0 key less in
      omega (arith, below.start parts.0 parts.1, is.begins, start_of pair)

  pub greater_starts : (pair : Pair) → extent_cmp pair.0 key ≡ Greater → is_of id kind (overflow_of pair) ≡ true → suc start ≤ (overflow_of pair).start
  greater_starts pair greater of =
      let parts = fork_pair pair Greater greater of in
      let above = above_of pair.0 key greater in
      omega (arith, above.start (sym parts.0) (sym parts.1), is.begins, start_of pair)

  pub tied_of : (pair : Pair) → extent_cmp pair.0 key ≡ Equal → is_of id kind (overflow_of pair) ≡ true
  tied_of pair equal = let ties = ties_of pair.0 key equal in of_fork id kind pair (ties.file ∙ is.file) (ties.fork ∙ is.fork)

  pub tied_starts : (pair : Pair) → extent_cmp pair.0 key ≡ Equal → (overflow_of pair).start ≡ start
  tied_starts pair equal = start_of pair ∙ (ties_of pair.0 key equal).start ∙ is.begins

  -- ---- pairs on one side of the key

  all_below : (pairs : List Pair) → ((k : ℕ) → k < length pairs → extent_cmp (pair_at pairs k).0 key ≡ Less) → AreBelow start (of_fork_in id kind pairs)
  all_below [] less = tt
  all_below (pair ∷ rest) less = by_test (is_of id kind (overflow_of pair)) refl (all_below rest (λ k inside. less (suc k) (omega (arith, inside))))
    where
      by_test : (b : Bool) → is_of id kind (overflow_of pair) ≡ b → AreBelow start (of_fork_in id kind rest) → AreBelow start ((if b then overflow_of pair ∷ [] else []) ++ of_fork_in id kind rest)
      by_test true of others = (less_starts pair (less 0 (omega arith)) of, others)
      by_test false of others = others

  pub all_from : (pairs : List Pair) → ((k : ℕ) → k < length pairs → extent_cmp (pair_at pairs k).0 key ≡ Greater) → AreFrom (suc start) (of_fork_in id kind pairs)
  all_from [] greater = tt
  all_from (pair ∷ rest) greater = by_test (is_of id kind (overflow_of pair)) refl (all_from rest (λ k inside. greater (suc k) (omega (arith, inside))))
    where
      by_test : (b : Bool) → is_of id kind (overflow_of pair) ≡ b → AreFrom (suc start) (of_fork_in id kind rest) → AreFrom (suc start) ((if b then overflow_of pair ∷ [] else []) ++ of_fork_in id kind rest)
      by_test true of others = (greater_starts pair (greater 0 (omega arith)) of, others)
      by_test false of others = others

  -- ---- a list cut at a pair

  front_below : (pairs : List Pair) (place : ℕ) → place ≤ length pairs → ((k : ℕ) → k < place → extent_cmp (pair_at pairs k).0 key ≡ Less) → AreBelow start (of_fork_in id kind (take place pairs))
  front_below pairs place inside less = all_below (take place pairs) (λ k low.
      let early : k < place = omega (arith, low, length-take place pairs) in
      ap (λ (pair : Pair). extent_cmp pair.0 key) (get_or-take place pairs k no_pair early) ∙ less k early)

  back_from : (pairs : List Pair) (place : ℕ) → ((k : ℕ) → place ≤ k → k < length pairs → extent_cmp (pair_at pairs k).0 key ≡ Greater) → AreFrom (suc start) (of_fork_in id kind (drop place pairs))
  back_from pairs place greater = all_from (drop place pairs) (λ k low.
      ap (λ (pair : Pair). extent_cmp pair.0 key) (get_or-drop place pairs k no_pair) ∙ greater (place + k) (omega arith) (omega (arith, low, length-drop place pairs)))

  -- where a key ties with a pair of rising ones, those before it are less, and those behind it greater
  before_tied : (pairs : List Pair) (place : ℕ) → AscendByKey pairs → place < length pairs → extent_cmp (pair_at pairs place).0 key ≡ Equal → (k : ℕ) → k < place → extent_cmp (pair_at pairs k).0 key ≡ Less
  before_tied pairs place rises inside equal k low = sym (alike_right extent_total (pair_at pairs place).0 key (pair_at pairs k).0 equal) ∙ rises k place low inside

  behind_tied : (pairs : List Pair) (place : ℕ) → AscendByKey pairs → place < length pairs → extent_cmp (pair_at pairs place).0 key ≡ Equal → (k : ℕ) → suc place ≤ k → k < length pairs → extent_cmp (pair_at pairs k).0 key ≡ Greater
  behind_tied pairs place rises inside equal k low high =
      sym (alike_right extent_total (pair_at pairs place).0 key (pair_at pairs k).0 equal)
      ∙ extent_total.antisymm (pair_at pairs k).0 (pair_at pairs place).0 ∙ ap ordering_reverse (rises place k (omega (arith, low)) high)

  -- the records of a fork where one pair stands between others
  pub mid_fork : (front back : List Pair) (pair : Pair) → is_of id kind (overflow_of pair) ≡ true → of_fork_in id kind (front ++ pair ∷ back) ≡ of_fork_in id kind front ++ overflow_of pair ∷ of_fork_in id kind back
  mid_fork front back pair of =
      ap (kept (is_of id kind)) (map-append overflow_of front (pair ∷ back)) ∙ kept_append (is_of id kind) (map overflow_of front) (map overflow_of (pair ∷ back))
      ∙ (λ i. of_fork_in id kind front ++ ((if of i then overflow_of pair ∷ [] else []) ++ of_fork_in id kind back))

  pub mid_others : (front back : List Pair) (pair : Pair) → is_of id kind (overflow_of pair) ≡ true → of_others_in id kind (front ++ pair ∷ back) ≡ of_others_in id kind front ++ of_others_in id kind back
  mid_others front back pair of =
      ap (kept (λ more. not (is_of id kind more))) (map-append overflow_of front (pair ∷ back)) ∙ kept_append (λ more. not (is_of id kind more)) (map overflow_of front) (map overflow_of (pair ∷ back))
      ∙ (λ i. of_others_in id kind front ++ ((if not (of i) then overflow_of pair ∷ [] else []) ++ of_others_in id kind back))

  pub no_mid_fork : (front back : List Pair) → of_fork_in id kind (front ++ back) ≡ of_fork_in id kind front ++ of_fork_in id kind back
  no_mid_fork front back = ap (kept (is_of id kind)) (map-append overflow_of front back) ∙ kept_append (is_of id kind) (map overflow_of front) (map overflow_of back)

  pub no_mid_others : (front back : List Pair) → of_others_in id kind (front ++ back) ≡ of_others_in id kind front ++ of_others_in id kind back
  no_mid_others front back = ap (kept (λ more. not (is_of id kind more))) (map-append overflow_of front back) ∙ kept_append (λ more. not (is_of id kind more)) (map overflow_of front) (map overflow_of back)

  whole : (pairs : List Pair) (place : ℕ) → place < length pairs → pairs ≡ take place pairs ++ pair_at pairs place ∷ drop (suc place) pairs
  whole pairs place inside = sym (take-append-drop place pairs) ∙ ap (λ l. take place pairs ++ l) (drop-cons pairs place no_pair inside)

  next : (n : ℕ) → n + 1 ≡ suc n
  next n = omega arith

  -- ---- edits

  pub dropped : (old new : List Pair) → AscendByKey old → DropsPair extent_cmp key old new → of_fork_in id kind new ≡ kept (other_start start) (of_fork_in id kind old)
  dropped old new rises drops =
      let front = take drops.place old in
      let back = drop (suc drops.place) old in
      let pair = pair_at old drops.place in
      let less = before_tied old drops.place rises drops.inside drops.equal in
      let greater = behind_tied old drops.place rises drops.inside drops.equal in
      ap (of_fork_in id kind) (drops.is ∙ ap (λ n. front ++ drop n old) (next drops.place)) ∙ no_mid_fork front back
      ∙ sym (ap (λ l. kept (other_start start) (of_fork_in id kind l)) (whole old drops.place drops.inside)
      ∙ ap (kept (other_start start)) (mid_fork front back pair (tied_of pair drops.equal))
      ∙ taken_out start (overflow_of pair) (of_fork_in id kind front) (of_fork_in id kind back) (front_below old drops.place (omega (arith, drops.inside)) less) (back_from old (suc drops.place) greater) (tied_starts pair drops.equal))

  pub dropped_others : (old new : List Pair) → DropsPair extent_cmp key old new → of_others_in id kind new ≡ of_others_in id kind old
  dropped_others old new drops =
      let front = take drops.place old in
      let back = drop (suc drops.place) old in
      let pair = pair_at old drops.place in
      ap (of_others_in id kind) (drops.is ∙ ap (λ n. front ++ drop n old) (next drops.place)) ∙ no_mid_others front back
      ∙ sym (ap (of_others_in id kind) (whole old drops.place drops.inside) ∙ mid_others front back pair (tied_of pair drops.equal))

  -- the pair of a record reads back as it
  pub record ReadsBack (one : OverflowRecord) (value : List ℕ) : Type 0 where
    pub start_is : one.start ≡ start
    pub extents : extents_at value 0 ≡ one.extents

  -- a pair with a key of this fork and the value of a record is that record
  reads_as : (one : OverflowRecord) (own value : List ℕ) → ReadsBack one value → extent_cmp own key ≡ Equal → overflow_of (own, value) ≡ under id kind one
  unfolding overflow_of
  reads_as one own value back equal =
      let ties = ties_of own key equal in
      λ i. record { fork = (ties.fork ∙ is.fork) i; id = (ties.file ∙ is.file) i; start = (ties.start ∙ is.begins ∙ sym back.start_is) i; extents = (back.extents i).extents }

  pub added : (one : OverflowRecord) (value : List ℕ) (old new : List Pair) → ReadsBack one value → AddsPair extent_cmp key value old new → of_fork_in id kind new ≡ put_record (under id kind one) (of_fork_in id kind old)
  added one value old new back adds =
      let front = take adds.place old in
      let rest = drop adds.place old in
      let pair : Pair = (key, value) in
      let equal = equal_by key key (extent_cmp key key) refl refl refl refl in
      ap (of_fork_in id kind) adds.is ∙ mid_fork front rest pair (tied_of pair equal)
      ∙ ap (λ x. of_fork_in id kind front ++ x ∷ of_fork_in id kind rest) (reads_as one key value back equal)
      ∙ sym (ap (λ l. put_record (under id kind one) (of_fork_in id kind l)) (sym (take-append-drop adds.place old))
      ∙ ap (put_record (under id kind one)) (no_mid_fork front rest)
      ∙ put_between (under id kind one) (of_fork_in id kind front) (of_fork_in id kind rest)
      (subst (λ n. AreBelow n (of_fork_in id kind front)) (sym back.start_is) (front_below old adds.place adds.inside adds.before))
      (subst (λ n. AreFrom (suc n) (of_fork_in id kind rest)) (sym back.start_is) (back_from old adds.place adds.behind)))

  pub added_others : (value : List ℕ) (old new : List Pair) → AddsPair extent_cmp key value old new → of_others_in id kind new ≡ of_others_in id kind old
  added_others value old new adds =
      let front = take adds.place old in
      let rest = drop adds.place old in
      let pair : Pair = (key, value) in
      let equal = equal_by key key (extent_cmp key key) refl refl refl refl in
      ap (of_others_in id kind) adds.is ∙ mid_others front rest pair (tied_of pair equal)
      ∙ sym (ap (of_others_in id kind) (sym (take-append-drop adds.place old)) ∙ no_mid_others front rest)

  pub replaced : (one : OverflowRecord) (value : List ℕ) (old new : List Pair) → ReadsBack one value → AscendByKey old → ChangesPair extent_cmp key value old new → of_fork_in id kind new ≡ put_record (under id kind one) (of_fork_in id kind old)
  replaced one value old new back rises changes =
      let front = take changes.place old in
      let rest = drop (suc changes.place) old in
      let pair = pair_at old changes.place in
      let other : Pair = (pair.0, value) in
      let less = before_tied old changes.place rises changes.inside changes.equal in
      ap (of_fork_in id kind) (changes.is ∙ ap (λ n. front ++ other ∷ drop n old) (next changes.place)) ∙ mid_fork front rest other (tied_of other changes.equal)
      ∙ ap (λ x. of_fork_in id kind front ++ x ∷ of_fork_in id kind rest) (reads_as one pair.0 value back changes.equal)
      ∙ sym (ap (λ l. put_record (under id kind one) (of_fork_in id kind l)) (whole old changes.place changes.inside)
      ∙ ap (put_record (under id kind one)) (mid_fork front rest pair (tied_of pair changes.equal))
      ∙ put_over (under id kind one) (overflow_of pair) (of_fork_in id kind front) (of_fork_in id kind rest)
      (subst (λ n. AreBelow n (of_fork_in id kind front)) (sym back.start_is) (front_below old changes.place (omega (arith, changes.inside)) less))
      (tied_starts pair changes.equal ∙ sym back.start_is))

  pub replaced_others : (value : List ℕ) (old new : List Pair) → ChangesPair extent_cmp key value old new → of_others_in id kind new ≡ of_others_in id kind old
  replaced_others value old new changes =
      let front = take changes.place old in
      let rest = drop (suc changes.place) old in
      let pair = pair_at old changes.place in
      let other : Pair = (pair.0, value) in
      ap (of_others_in id kind) (changes.is ∙ ap (λ n. front ++ other ∷ drop n old) (next changes.place)) ∙ mid_others front rest other (tied_of other changes.equal)
      ∙ sym (ap (of_others_in id kind) (whole old changes.place changes.inside) ∙ mid_others front rest pair (tied_of pair changes.equal))

  -- ---- whether the tree has the key

  pub start_has_key : (pairs : List Pair) → has_start start (of_fork_in id kind pairs) ≡ true → HasKey extent_cmp key pairs
  start_has_key [] has = absurd (cc has)
  start_has_key (pair ∷ rest) has = by_test (is_of id kind (overflow_of pair)) refl (start_has_key rest)
    where
      here : is_of id kind (overflow_of pair) ≡ true → (overflow_of pair).start ≡ start → HasKey extent_cmp key (pair ∷ rest)
      here of same = let parts = fork_of id kind pair of in (0, omega arith, equal_by pair.0 key (extent_cmp pair.0 key) refl (parts.0 ∙ sym is.file) (parts.1 ∙ sym is.fork) (sym (start_of pair) ∙ same ∙ sym is.begins))

      behind : HasKey extent_cmp key rest → HasKey extent_cmp key (pair ∷ rest)
      behind found = (suc found.0, omega (arith, found.1), found.2)

      by_test : (b : Bool) → is_of id kind (overflow_of pair) ≡ b → (has_start start (of_fork_in id kind rest) ≡ true → HasKey extent_cmp key rest) → HasKey extent_cmp key (pair ∷ rest)
      by_test true of others = elim (first_or_later {start = start} (overflow_of pair) (of_fork_in id kind rest) (sym (λ i. has_start start ((if of i then overflow_of pair ∷ [] else []) ++ of_fork_in id kind rest)) ∙ has)) [
        | inl same ↦ here of same
        | inr there ↦ behind (others there)
      ]
      by_test false of others = behind (others (sym (λ i. has_start start ((if of i then overflow_of pair ∷ [] else []) ++ of_fork_in id kind rest)) ∙ has))

  -- and none begins there where the tree doesn't have it
  pub no_key_no_start : (pairs : List Pair) → (HasKey extent_cmp key pairs → ⊥) → has_start start (of_fork_in id kind pairs) ≡ false
  no_key_no_start pairs absent = by_test (has_start start (of_fork_in id kind pairs)) refl
    where
      by_test : (b : Bool) → has_start start (of_fork_in id kind pairs) ≡ b → b ≡ false
      by_test true has = absurd (absent (start_has_key pairs has))
      by_test false has = refl

  -- where none begins there nothing is taken out
  pub none_taken : (records : List Overflow) → has_start start records ≡ false → kept (other_start start) records ≡ records
  none_taken records none = no_start_stay start records none

  pub key_has_start : (pairs : List Pair) → HasKey extent_cmp key pairs → has_start start (of_fork_in id kind pairs) ≡ true
  key_has_start pairs (k, inside, equal) =
      ap (λ l. has_start start (of_fork_in id kind l)) (whole pairs k inside)
      ∙ ap (has_start start) (mid_fork (take k pairs) (drop (suc k) pairs) (pair_at pairs k) (tied_of (pair_at pairs k) equal))
      ∙ start_stands start (of_fork_in id kind (take k pairs)) (of_fork_in id kind (drop (suc k) pairs)) (overflow_of (pair_at pairs k)) (tied_starts (pair_at pairs k) equal)
