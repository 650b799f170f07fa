-- Records removed one after another: what is left, and what was taken away.
use Rattle.std.proofs.Common.{◌≡◌, inl, inr, ℕ, suc, ◌+◌, ◌<◌, ◌≤◌, ◌^◌, Bool, true, false, cond, List, [], ◌∷◌, ◌++◌, take, drop, length, map, refl, sym, ◌∙◌, ap, subst, arith, append_assoc}
use Rattle.std.specs.Prelude.{All, slice_index_or, count_by, not, Contains, min, if◌then◌else◌, ◌-◌}
use Rattle.std.specs.List.{flat_map}
use Rattle.std.specs.declared.cmp.Ordering.TheVariants.{Equal}
use Rattle.std.proofs.lemmas.Grind.{flat_map-append}
use Rattle.std.proofs.lemmas.List.{append-nil, length-append, length-take}
use Rattle.std.proofs.Math.Seq.{take-append_seam, drop-append_seam}
use Rattle.hx_bytes.specs.declared.extents.Extent.{Extent}
use Rattle.btree_node.specs.Keys.{IsAttrKey, attr_cmp}
use Rattle.btree_node.specs.KeyLaws.{attr_total}
use Rattle.btree_node.specs.Levels.{Pair}
use Rattle.btree_node.specs.Store.{Store}
use Rattle.btree_node.specs.Tree.{IsTree, pairs_of}
use Rattle.btree_edit.specs.Answers.{AnswersRemove}
use Rattle.btree_edit.specs.Sorted.{DropsPair, RemovesPair}
use Rattle.btree_edit.specs.declared.edits.Removed.{Removed}
use Rattle.btree_edit.specs.declared.edits.Removed.TheVariants as removed
use Rattle.hfs_model.specs.Sorted.{kept}
use Rattle.hfs_volume.specs.Changes.{Adds}
use Rattle.hfs_volume.specs.Records.{Attribute, attribute_of}
use Rattle.hfs_volume.specs.Values.{used_extents}
use Rattle.hfs_volume.proofs.Members.{all_of, each_of, inserted_cases, still_stands}
use Rattle.hfs_volume.proofs.Valued.{kept_mapped}
use Rattle.attributes.specs.Dropping.{IsFirstAt, DropsAll, DropsCounted, DropsFirst, DropsOne, counted, extents_of_pair, is_first}
use Rattle.attributes.specs.declared.value.Dropped.{Dropped}
use Rattle.attributes.proofs.Lists.{all_others, count_append, count_cons, count_most, kept_append, no_length, none_before, parted, plus_one}
use Rattle.attributes.proofs.Places.{cmp_same, one_ties, tree_ascends}

-- ---- a pair dropped

module _ (key : List ℕ) (old new : List Pair) (drops : DropsPair attr_cmp key old new) where
  abbrev dropped : Pair
  dropped = slice_index_or old drops.place ([], [])

  abbrev front : List Pair
  front = take drops.place old

  abbrev back : List Pair
  back = drop (suc drops.place) old

  left_is : new ≡ front ++ back
  left_is = drops.is ∙ ap (λ n. front ++ drop n old) (plus_one drops.place)

  whole_is : old ≡ front ++ dropped ∷ back
  whole_is = parted old ([], []) drops.place drops.inside

  front_long : length front ≡ drops.place
  front_long = omega (arith, length-take drops.place old, drops.inside)

  within : drops.place ≤ length new
  within = omega (arith, ap (λ (l : List Pair). length l) left_is, length-append front back, front_long)

  -- put back, it gives the old list
  pub dropped_back : Adds dropped new old
  dropped_back =
      let taken : take drops.place new ≡ front = ap (λ l. take drops.place l) left_is ∙ ap (λ n. take n (front ++ back)) (sym front_long) ∙ take-append_seam front back in
      let left : drop drops.place new ≡ back = ap (λ l. drop drops.place l) left_is ∙ ap (λ n. drop n (front ++ back)) (sym front_long) ∙ drop-append_seam front back in
      record {
        place = drops.place;
        within = within;
        is = whole_is ∙ sym (ap (λ l. l ++ dropped ∷ drop drops.place new) taken ∙ ap (λ l. front ++ dropped ∷ l) left);
      }

  -- the first that passes is gone
  pub drops_one : (test : Pair → Bool) → IsFirstAt test old drops.place → DropsOne test dropped old new
  drops_one test found =
      let none = none_before test old ([], []) drops.place found.before in
      let rest = λ (pair : Pair). not (test pair) in
      record {
        first =
            ap (kept test) whole_is ∙ kept_append test front (dropped ∷ back)
            ∙ (λ i. none i ++ ((if found.passes i then dropped ∷ [] else []) ++ kept test back))
            ∙ ap (λ l. dropped ∷ l) (sym (ap (kept test) left_is ∙ kept_append test front back ∙ ap (λ l. l ++ kept test back) none));
        others =
            ap (kept rest) left_is ∙ kept_append rest front back
            ∙ sym (ap (kept rest) whole_is ∙ kept_append rest front (dropped ∷ back) ∙ (λ i. kept rest front ++ ((if not (found.passes i) then dropped ∷ [] else []) ++ kept rest back)));
      }

-- the key of the first that passes was removed
pub removal_of_first : (test : Pair → Bool) (key own : List ℕ) (store : Store) (new : List Pair) (answer : Removed) → IsTree IsAttrKey attr_cmp store → (place : ℕ) → IsFirstAt test (pairs_of store) place
    → (slice_index_or (pairs_of store) place ([], [])).0 ≡ own → own ≡ key → AnswersRemove attr_cmp key store answer → RemovesPair attr_cmp key (pairs_of store) new answer
    → DropsOne test (slice_index_or (pairs_of store) place ([], [])) (pairs_of store) new
removal_of_first test key own store new answer tree place found own_is key_is answers drops = by_answer answer answers drops
  where
    pair : Pair
    pair = slice_index_or (pairs_of store) place ([], [])

    ties : attr_cmp pair.0 key ≡ Equal
    ties = ap (λ l. attr_cmp l key) (own_is ∙ key_is) ∙ cmp_same attr_total key

    by_answer : (a : Removed) → AnswersRemove attr_cmp key store a → RemovesPair attr_cmp key (pairs_of store) new a → DropsOne test pair (pairs_of store) new
    by_answer removed.Absent none drops_none = absurd (none (place, found.inside, ties))
    by_answer removed.Done some gone =
        let same = one_ties key (pairs_of store) gone.place place (tree_ascends store tree) gone.inside found.inside gone.equal ties in
        subst (λ n. DropsOne test (slice_index_or (pairs_of store) n ([], [])) (pairs_of store) new) same
        (drops_one key (pairs_of store) new gone test (subst (IsFirstAt test (pairs_of store)) (sym same) found))

-- ---- what holds of each pair holds of those left, and with one more

pub each_left : (P : Pair → Type 0) (item : Pair) (old new : List Pair) → Adds item old new → All P new → All P old
each_left P item old new adds all = all_of P old (λ x there. each_of P new all x (subst (λ l. Contains l x) (sym adds.is) (still_stands old adds.place item x there)))

pub each_more : (P : Pair → Type 0) (item : Pair) (old new : List Pair) → Adds item old new → P item → All P old → All P new
each_more P item old new adds is all = all_of P new (λ x there. elim (inserted_cases old adds.place item x (subst (λ l. Contains l x) adds.is there)) [
  | inl same ↦ subst P (sym same) is
  | inr was ↦ each_of P old all x was
])

pub removal_keeps : (P : Pair → Type 0) (key : List ℕ) (old new : List Pair) (answer : Removed) → All P old → RemovesPair attr_cmp key old new answer → All P new
removal_keeps P key old new removed.Absent all same = subst (All P) (sym same) all
removal_keeps P key old new removed.Done all drops = each_left P (slice_index_or old drops.place ([], [])) new old (dropped_back key old new drops) all

-- ---- one after another

-- these are gone, the first of those that pass, and all others are as they were
pub record DropsMany (test : Pair → Bool) (gone old new : List Pair) : Type 0 where
  pub of : kept test old ≡ gone ++ kept test new
  pub others : kept (λ pair. not (test pair)) new ≡ kept (λ pair. not (test pair)) old

pub none_yet : (test : Pair → Bool) (old : List Pair) → DropsMany test [] old old
none_yet test old = record { of = refl; others = refl }

pub one_more : (test : Pair → Bool) (gone : List Pair) (pair : Pair) (a b c : List Pair) → DropsMany test gone a b → DropsOne test pair b c → DropsMany test (gone ++ pair ∷ []) a c
one_more test gone pair a b c many one = record {
  of = many.of ∙ ap (λ l. gone ++ l) one.first ∙ sym (append_assoc gone (pair ∷ []) (kept test c));
  others = one.others ∙ many.others;
}

-- where none is left, all are gone
pub all_gone : (test : Pair → Bool) (gone old new : List Pair) → DropsMany test gone old new → kept test new ≡ [] → (kept test old ≡ gone) × (new ≡ kept (λ pair. not (test pair)) old)
all_gone test gone old new many none = (many.of ∙ ap (λ l. gone ++ l) none ∙ append-nil gone, sym (all_others test new none) ∙ many.others)

-- as many as there were are gone
pub enough_gone : (test : Pair → Bool) (gone old new : List Pair) (most : ℕ) → DropsMany test gone old new → length gone ≡ most → length (kept test old) ≤ most → kept test new ≡ []
enough_gone test gone old new most many long few = no_length (kept test new) (omega (arith, ap (λ (l : List Pair). length l) many.of, length-append gone (kept test new), long, few))

-- ---- their extents

pub extents_more : (blocks : List Extent) (gone : List Pair) (pair : Pair) (before : List Extent) → before ≡ blocks ++ flat_map extents_of_pair gone
    → before ++ extents_of_pair pair ≡ blocks ++ flat_map extents_of_pair (gone ++ pair ∷ [])
extents_more blocks gone pair before is =
    ap (λ l. l ++ extents_of_pair pair) is ∙ append_assoc blocks (flat_map extents_of_pair gone) (extents_of_pair pair)
    ∙ ap (λ l. blocks ++ l) (sym (flat_map-append extents_of_pair gone (pair ∷ []) ∙ ap (λ l. flat_map extents_of_pair gone ++ l) (append-nil (extents_of_pair pair))))

pub mapped_extents : (pairs : List Pair) → flat_map extents_of_pair pairs ≡ flat_map used_extents (map attribute_of pairs)
mapped_extents [] = refl
mapped_extents (pair ∷ pairs) = ap (λ l. extents_of_pair pair ++ l) (mapped_extents pairs)

-- the extents of the pairs kept by their records
pub kept_extents : (test : Attribute → Bool) (pairs : List Pair) → flat_map extents_of_pair (kept (λ pair. test (attribute_of pair)) pairs) ≡ flat_map used_extents (kept test (map attribute_of pairs))
kept_extents test pairs = mapped_extents (kept (λ pair. test (attribute_of pair)) pairs) ∙ ap (flat_map used_extents) (kept_mapped attribute_of test pairs)

-- ---- their count

pub count_more : (count most : ℕ) (gone : List Pair) (pair : Pair) → count ≡ count_by is_first gone → length gone < most → most < 2 ^ 32 → counted count pair ≡ count_by is_first (gone ++ pair ∷ [])
count_more count most gone pair is few small = by_test (is_first pair) refl
  where
    low : count < most
    low = omega (arith, is, count_most is_first gone, few)

    more : count_by is_first (gone ++ pair ∷ []) ≡ count_by is_first gone + cond (is_first pair) 1 0
    more = omega (arith, count_append is_first gone (pair ∷ []), count_cons is_first pair [])

    by_test : (b : Bool) → is_first pair ≡ b → min (count + (if is_first pair then 1 else 0)) (2 ^ 32 - 1) ≡ count_by is_first (gone ++ pair ∷ [])
    by_test b first = (λ i. min (count + (if first i then 1 else 0)) (2 ^ 32 - 1)) ∙ of_bool b ∙ sym (more ∙ (λ i. count_by is_first gone + cond (first i) 1 0))
      where
        of_bool : (c : Bool) → min (count + (if c then 1 else 0)) (2 ^ 32 - 1) ≡ count_by is_first gone + cond c 1 0
        of_bool true = omega (arith, is, low, small)
        of_bool false = omega (arith, is, low, small)

-- ---- how far a removal of all has come

-- so many are gone, and their extents were added
pub record GoneSoFar (test : Pair → Bool) (many : ℕ) (old new : List Pair) (blocks blocks_new : List Extent) : Type 0 where
  pub gone : List Pair
  pub drops : DropsMany test gone old new
  pub long : length gone ≡ many
  pub added : blocks_new ≡ blocks ++ flat_map extents_of_pair gone

pub gone_none : (test : Pair → Bool) (old : List Pair) (blocks : List Extent) → GoneSoFar test 0 old old blocks blocks
gone_none test old blocks = record { gone = []; drops = none_yet test old; long = refl; added = sym (append-nil blocks) }

pub gone_one : (test : Pair → Bool) (many : ℕ) (a b c : List Pair) (pair : Pair) (blocks before after : List Extent) → GoneSoFar test many a b blocks before → DropsOne test pair b c → after ≡ before ++ extents_of_pair pair
    → GoneSoFar test (many + 1) a c blocks after
gone_one test many a b c pair blocks before after far one is = record {
  gone = far.gone ++ pair ∷ [];
  drops = one_more test far.gone pair a b c far.drops one;
  long = omega (arith, length-append far.gone (pair ∷ []), far.long);
  added = is ∙ extents_more blocks far.gone pair before far.added;
}

-- none is left
pub gone_all : (test : Pair → Bool) (many : ℕ) (old new : List Pair) (blocks after : List Extent) → GoneSoFar test many old new blocks after → kept test new ≡ [] → DropsAll test old new blocks after × (many ≡ length (kept test old))
gone_all test many old new blocks after far none =
    let ends = all_gone test far.gone old new far.drops none in
    (record { left = ends.1; added = far.added ∙ ap (λ l. blocks ++ flat_map extents_of_pair l) (sym ends.0) }, sym far.long ∙ ap (λ (l : List Pair). length l) (sym ends.0))

-- as many as there were are gone
pub gone_enough : (test : Pair → Bool) (many : ℕ) (old new : List Pair) (blocks after : List Extent) → GoneSoFar test many old new blocks after → length (kept test old) ≤ many → DropsAll test old new blocks after × (many ≡ length (kept test old))
gone_enough test many old new blocks after far few = gone_all test many old new blocks after far (enough_gone test far.gone old new many far.drops far.long few)

-- the next one wasn't there
pub gone_stop : (test : Pair → Bool) (many : ℕ) (a b c : List Pair) (blocks before after : List Extent) → GoneSoFar test many a b blocks before → DropsFirst test b c before after false → DropsAll test a c blocks after × (many ≡ length (kept test a))
gone_stop test many a b c blocks before after far stop =
    let here : GoneSoFar test many a c blocks after =
    record { gone = far.gone; drops = subst (DropsMany test far.gone a) (sym stop.0) far.drops; long = far.long; added = stop.2 ∙ far.added } in
    gone_all test many a c blocks after here (ap (kept test) stop.0 ∙ stop.1)

-- the same with a count of the first records
pub record CountedSoFar (test : Pair → Bool) (many : ℕ) (old new : List Pair) (gone_new : Dropped) : Type 0 where
  pub far : GoneSoFar test many old new [] gone_new.blocks
  pub count : gone_new.count ≡ count_by is_first far.gone

pub counted_none : (test : Pair → Bool) (old : List Pair) (gone : Dropped) → gone.count ≡ 0 → gone.blocks ≡ [] → CountedSoFar test 0 old old gone
counted_none test old gone zero_is none = record { far = record { gone = []; drops = none_yet test old; long = refl; added = none }; count = zero_is }

pub counted_one : (test : Pair → Bool) (many most : ℕ) (a b c : List Pair) (pair : Pair) (before after : Dropped) → CountedSoFar test many a b before → many < most → most < 2 ^ 32 → DropsOne test pair b c
    → after ≡ record { count = counted before.count pair; blocks = before.blocks ++ extents_of_pair pair } → CountedSoFar test (many + 1) a c after
unfolding gone_one
counted_one test many most a b c pair before after known few small one is = record {
  far = gone_one test many a b c pair [] before.blocks after.blocks known.far one (ap (λ (d : Dropped). d.blocks) is);
  count = ap (λ (d : Dropped). d.count) is ∙ count_more before.count most known.far.gone pair known.count (omega (arith, known.far.long, few)) small;
}

pub counted_all : (test : Pair → Bool) (many : ℕ) (old new : List Pair) (gone : Dropped) → CountedSoFar test many old new gone → kept test new ≡ [] → DropsAll test old new [] gone.blocks × (gone.count ≡ count_by is_first (kept test old))
counted_all test many old new gone known none = (
  (gone_all test many old new [] gone.blocks known.far none).0,
  known.count ∙ ap (count_by is_first) (sym ((all_gone test known.far.gone old new known.far.drops none).0)),
)

pub counted_enough : (test : Pair → Bool) (many : ℕ) (old new : List Pair) (gone : Dropped) → CountedSoFar test many old new gone → length (kept test old) ≤ many → DropsAll test old new [] gone.blocks × (gone.count ≡ count_by is_first (kept test old))
counted_enough test many old new gone known few = counted_all test many old new gone known (enough_gone test known.far.gone old new many known.far.drops known.far.long few)

pub counted_stop : (test : Pair → Bool) (many : ℕ) (a b c : List Pair) (before after : Dropped) → CountedSoFar test many a b before → DropsCounted test b c before after false → DropsAll test a c [] after.blocks × (after.count ≡ count_by is_first (kept test a))
counted_stop test many a b c before after known stop =
    let here : CountedSoFar test many a c after = subst (CountedSoFar test many a c) (sym stop.2) (subst (λ l. CountedSoFar test many a l before) (sym stop.0) known) in
    counted_all test many a c after here (ap (kept test) stop.0 ∙ stop.1)
