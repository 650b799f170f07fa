-- The records of the attributes file, judged one after the other: to whom each belongs, and its value.
use Rattle.std.proofs.Common.{IsTrue, ◌≡◌, ◌≢◌, ◌↔◌, ◌<◌, ◌≤◌, ℕ, zero, suc, ◌+◌, Bool, true, false, not, ◌&&◌, ◌==◌, if◌then◌else◌, List, [], ◌∷◌, length, inl, refl, sym, ◌∙◌, ap, subst, arith, ⊎_elim}
use Rattle.std.specs.Prelude.{All, Contains}
use Rattle.std.specs.List.{count_by}
use Rattle.std.specs.List.Sorted.{IsNonDecreasing}
use Rattle.std.proofs.lemmas.Bool.{true≢false, eqb-true, eq-eqb, ne_eqb, and_parts, cases_lt}
use Rattle.std.proofs.lemmas.List.{get_or_default}
use Rattle.alloc_bitmap.specs.Apart.{times}
use Rattle.volume_header.specs.declared.header.VolumeHeader.{VolumeHeader}
use Rattle.btree_node.specs.Levels.{Pair}
use Rattle.btree_node.specs.Keys.{attr_file, attr_units}
use Rattle.cat_records.specs.Attributes.{is_attr}
use Rattle.btree_node.proofs.Units.{units_at, units_end}
use Rattle.hfs_volume.specs.Attributes.{HasOwner, IsAttribute}
use Rattle.hfs_volume.specs.Blocks.{HasValueSizes}
use Rattle.hfs_volume.specs.Content.{VolumeState, records_of, attributes_of}
use Rattle.hfs_volume.specs.Records.{Placed, Attribute, attribute_of, entries_of, is_link, id_of}
use Rattle.hfs_volume.specs.Values.{IsValue}
use Rattle.hfs_volume.proofs.Members.{all_of, each_of, map_cases, map_stands}
use Rattle.hfs_volume.proofs.EntryWants.{counted, none_or_one}
use Rattle.fsck_list.specs.declared.finding.Finding.{Finding}
use Rattle.fsck_core.specs.Attributes.{owner_here, owner_count, is_owned, attribute_at, AreAttributesOf, AreOwnersOf, FailsRecord, IsBrokenValue, IsGoodRecord, IsGoodValue, AreGood, Judges, IsBrokenRecord, IsNamedAt, IsToldOr}
use Rattle.fsck_core.specs.Decided.{Adds}
use Rattle.fsck_core.specs.Names.{pair_at}
use Rattle.fsck_core.specs.Rows.{row_of, rows_of}
use Rattle.fsck_core.specs.declared.rows.Row.{Row}
use Rattle.fsck_core.proofs.RowLaws.{count_map, not_below, true_below}
use Rattle.fsck_core.proofs.DecidedLaws.{Unless, adds_none}
use Rattle.fsck_core.proofs.ValueFound.{good_at, fails_at, judges_as, judges_both, judges_unless, unless_adds}
use Rattle.fsck_list.specs.Kept.{IsListed}
use Rattle.fsck_core.specs.Decided.{StaysListed}
use Rattle.fsck_core.proofs.NamedLaws.{named_as}
use Rattle.fsck_core.proofs.ToldLaws.{told_still, told_unless}

-- ---- owners

not_zero : (n : ℕ) → not (n == 0) ≡ true → 0 < n
not_zero zero is = absurd (true≢false (sym is))
not_zero (suc n) is = omega arith

some_yes : (n : ℕ) → 0 < n → not (n == 0) ≡ true
some_yes n some = let other : n ≢ 0 = λ is. absurd (omega (arith, is, some)) in ap not (ne_eqb n 0 other)

no_then : (b : Bool) → not b ≡ true → b ≡ false
no_then true is = sym is
no_then false is = refl

abbrev owns : ℕ → Placed → Bool
owns id placed = not (is_link placed) && (id_of placed == id)

module _ (records : List Placed) (rows : List Row) (owners : List ℕ) (rows_are : rows ≡ rows_of (entries_of records)) (owners_are : (id : ℕ) → times id owners ≡ owner_count rows id) where
  many_is : (id : ℕ) → times id owners ≡ count_by (owns id) (entries_of records)
  many_is id = owners_are id ∙ ap (λ (l : List Row). owner_count l id) rows_are ∙ count_map row_of (owner_here id) (entries_of records)

  owner_there : (id : ℕ) → 0 < times id owners → HasOwner records id
  owner_there id some = ⊎_elim
      (λ (none : count_by (owns id) (entries_of records) ≡ 0). absurd (omega (arith, some, none, many_is id)))
      (λ (one : (p : Placed) × Contains (entries_of records) p × (owns id p ≡ true)).
      let parts = and_parts (not (is_link one.0)) (id_of one.0 == id) one.2 in (one.0, one.1, eqb-true (id_of one.0) id parts.1, no_then (is_link one.0) parts.0))
      (none_or_one (owns id) (entries_of records))

  owner_counted : (id : ℕ) → HasOwner records id → 0 < times id owners
  owner_counted id (placed, stands, same, plain) =
      let there = counted (owns id) (entries_of records) placed stands (λ i. (ap not plain i) && (eq-eqb (id_of placed) id same i)) in
      omega (arith, there, many_is id)

pub owners_of : (volume : VolumeState) (rows : List Row) (owners : List ℕ) → rows ≡ rows_of (entries_of (records_of volume)) → IsNonDecreasing owners → ((id : ℕ) → times id owners ≡ owner_count rows id) → AreOwnersOf volume owners
owners_of volume rows owners rows_are order are = (order, λ id. (owner_there (records_of volume) rows owners rows_are are id, owner_counted (records_of volume) rows owners rows_are are id))

-- ---- whom a record belongs to

has_units : (key : List ℕ) → 16 ≤ length key → 0 < length (attr_units key)
has_units key long = let is = ap (λ (l : List ℕ). length l) (units_at key 14 (omega (arith, long))) in omega (arith, is)

long_units : (key : List ℕ) → 0 < length (attr_units key) → 16 ≤ length key
long_units key some = ⊎_elim
    (λ (short : length key < 16). absurd (let is = ap (λ (l : List ℕ). length l) (units_end key 14 (omega (arith, short))) in omega (arith, is, some)))
    (λ (long : 16 ≤ length key). long)
    (cases_lt (length key) 16)

module _ (records : List Placed) (owners : List ℕ) (own : (id : ℕ) → (0 < times id owners) ↔ HasOwner records id) (key : List ℕ) where
  abbrev many : ℕ
  many = times (attr_file key) owners

  owned_key : is_owned key many ≡ true → (0 < length (attr_units key)) × HasOwner records (attr_file key)
  owned_key is = ⊎_elim
      (λ (short : length key < 16). absurd (true≢false (sym is ∙ ap (λ b. if b then false else not (many == 0)) (true_below (length key) 16 short))))
      (λ (long : 16 ≤ length key).
      let some : not (many == 0) ≡ true = sym (ap (λ b. if b then false else not (many == 0)) (not_below (length key) 16 long)) ∙ is in
      (has_units key long, (own (attr_file key)).0 (not_zero many some)))
      (cases_lt (length key) 16)

  key_owned : 0 < length (attr_units key) → HasOwner records (attr_file key) → is_owned key many ≡ true
  key_owned named owner = ap (λ b. if b then false else not (many == 0)) (not_below (length key) 16 (long_units key named)) ∙ some_yes many ((own (attr_file key)).1 owner)

-- ---- one record

module _ (volume : VolumeState) (head : VolumeHeader) (pairs : List Pair) (are : AreAttributesOf volume head pairs) (owners : List ℕ) (own : AreOwnersOf volume owners) (at : ℕ) (inside : at < length pairs) (key : List ℕ) (key_is : key ≡ (pair_at pairs at).0)
    (holds : Bool) (holds_is : holds ≡ is_owned key (times (attr_file key) owners)) where
  abbrev Owns : Type 0
  Owns = (0 < length (attribute_at pairs at).name) × HasOwner (records_of volume) (attribute_at pairs at).id

  named_owner : holds ≡ true → Owns
  unfolding attribute_of
  named_owner holding = subst (λ (k : List ℕ). (0 < length (attr_units k)) × HasOwner (records_of volume) (attr_file k)) key_is (owned_key (records_of volume) owners own.1 key (sym holds_is ∙ holding))

  owned : Owns → holds ≡ true
  unfolding attribute_of
  owned is = let there = subst (λ (k : List ℕ). (0 < length (attr_units k)) × HasOwner (records_of volume) (attr_file k)) (sym key_is) is in holds_is ∙ key_owned (records_of volume) owners own.1 key there.0 there.1

  good_owned : AreGood volume (length volume.attribute_pairs) → holds ≡ true
  good_owned good = let it = good_at volume head pairs are at inside good at inside in owned (it.own.named, it.own.owner)

  fails : holds ≡ false → (place : ℕ) → place ≡ (attribute_at pairs at).id → FailsRecord volume place
  fails refused place place_is = fails_at volume head pairs are at inside at place inside place_is (inl (λ it. true≢false (sym (owned (it.named, it.owner)) ∙ refused)))

  good_record : Owns → IsGoodValue volume at → IsGoodRecord volume (pair_at volume.attribute_pairs at)
  good_record is value =
      let there = subst (λ (l : List Pair). (0 < length (attribute_at l at).name) × HasOwner (records_of volume) (attribute_at l at).id) are.pairs_are is in
      record { own = record { spelled = value.0; named = there.0; owner = there.1 }; value = value.1.0; sizes = value.1.1 }

  pub owned_adds : (place : ℕ) (old mid : List Finding) → place ≡ (attribute_at pairs at).id → Unless 20 holds place old mid → Adds (IsBrokenValue volume) old mid
  owned_adds place old mid place_is each = unless_adds volume holds place old mid (λ refused. fails refused place place_is) each

  pub record_named : (place : ℕ) (mid new : List Finding) (one : Bool) → place ≡ (attribute_at pairs at).id → one ≡ holds → (one ≡ false → IsListed mid (record { rule = 20; place = place; found = 0; wanted = 1 })) → StaysListed mid new
      → IsToldOr volume (IsTrue (is_attr (pair_at pairs at).1) × IsValue (attributes_of volume) (attribute_at pairs at)) new → IsToldOr volume (IsNamedAt volume at) new
  record_named place mid new false place_is one_is found still named = inl (told_still (IsBrokenRecord volume) mid new still (told_unless 20 (FailsRecord volume) place mid (fails (sym one_is) place place_is) (found refl)))
  record_named place mid new true place_is one_is found still named =
      let is : Owns = named_owner (sym one_is) in
      named_as volume (IsTrue (is_attr (pair_at pairs at).1) × IsValue (attributes_of volume) (attribute_at pairs at)) (IsNamedAt volume at) new
      (λ value. subst (λ (l : List Pair). IsAttribute (records_of volume) (pair_at l at) × IsValue (attributes_of volume) (attribute_at l at)) are.pairs_are (record { spelled = value.0; named = is.0; owner = is.1 }, value.1)) named

  pub record_judged : (place : ℕ) (old mid new : List Finding) (one stands both : Bool) → place ≡ (attribute_at pairs at).id → both ≡ (stands && one) → one ≡ holds → (one ≡ false → IsListed mid (record { rule = 20; place = place; found = 0; wanted = 1 })) → StaysListed old mid → Unless 20 holds place old mid
      → Judges volume (IsGoodValue volume at) mid new stands → Judges volume (IsGoodRecord volume (pair_at volume.attribute_pairs at)) old new both
  record_judged place old mid new one stands both place_is both_is one_is found still each second =
      judges_as volume (Owns × IsGoodValue volume at) (IsGoodRecord volume (pair_at volume.attribute_pairs at)) old new both (λ p. good_record p.0 p.1)
      (judges_both volume Owns (IsGoodValue volume at) old mid new one stands both both_is (judges_unless volume Owns holds one place old mid named_owner good_owned (λ refused. fails refused place place_is) one_is found still each) second)

-- ---- all of them

module _ (volume : VolumeState) where
  pub records_none : (list : List Finding) → Judges volume (AreGood volume 0) list list true
  records_none list = record {
    holds = λ is k less. absurd (omega (arith, less));
    told = λ good. refl;
    found = λ no. absurd (true≢false no);
    still = λ f listed. listed;
    each = adds_none (IsBrokenValue volume) list;
  }

  pub records_more : (k : ℕ) (first old new : List Finding) (one met both : Bool) → both ≡ (one && met) → Judges volume (AreGood volume k) first old met → Judges volume (IsGoodRecord volume (pair_at volume.attribute_pairs k)) old new one
      → Judges volume (AreGood volume (k + 1)) first new both
  records_more k first old new one met both both_is before this =
      judges_as volume (AreGood volume k × IsGoodRecord volume (pair_at volume.attribute_pairs k)) (AreGood volume (k + 1)) first new both more
      (judges_both volume (AreGood volume k) (IsGoodRecord volume (pair_at volume.attribute_pairs k)) first old new met one both both_is before this)
    where
      more : AreGood volume k × IsGoodRecord volume (pair_at volume.attribute_pairs k) → AreGood volume (k + 1)
      more good j less = ⊎_elim
          (λ (before : j < k). good.0 j before)
          (λ (last : k ≤ j). let is : j ≡ k = omega (arith, less, last) in subst (λ n. IsGoodRecord volume (pair_at volume.attribute_pairs n)) (sym is) good.1)
          (cases_lt j k)

  pub records_all : (k : ℕ) (first new : List Finding) (met : Bool) → k ≡ length volume.attribute_pairs → Judges volume (AreGood volume k) first new met → Judges volume (AreGood volume (length volume.attribute_pairs)) first new met
  records_all k first new met is judged = subst (λ n. Judges volume (AreGood volume n) first new met) is judged

  abbrev pairs : List Pair
  pairs = volume.attribute_pairs

  pair_stands : (k : ℕ) → k < length pairs → Contains pairs (pair_at pairs k)
  pair_stands k inside = (k, inside, get_or_default pairs k (pair_at pairs k) ([], []) inside)

  good_of : AreGood volume (length pairs) → (pair : Pair) → Contains pairs pair → IsGoodRecord volume pair
  good_of good pair stands =
      let is : pair_at pairs stands.0 ≡ pair = get_or_default pairs stands.0 ([], []) pair stands.1 ∙ stands.2 in
      subst (λ (p : Pair). IsGoodRecord volume p) is (good stands.0 stands.1)

  good_attribute : AreGood volume (length pairs) → (a : Attribute) → Contains (attributes_of volume) a → IsValue (attributes_of volume) a × HasValueSizes volume.head.total_blocks volume.head.block_size (attributes_of volume) a
  good_attribute good a stands =
      let from = map_cases attribute_of pairs a stands in
      let it = good_of good from.0 from.1 in
      subst (λ (x : Attribute). IsValue (attributes_of volume) x × HasValueSizes volume.head.total_blocks volume.head.block_size (attributes_of volume) x) (sym from.2) (it.value, it.sizes)

  pub all_good : AreGood volume (length volume.attribute_pairs)
      → (All (IsAttribute (records_of volume)) volume.attribute_pairs × All (IsValue (attributes_of volume)) (attributes_of volume)) × All (HasValueSizes volume.head.total_blocks volume.head.block_size (attributes_of volume)) (attributes_of volume)
  all_good good = (
    (all_of (IsAttribute (records_of volume)) pairs (λ pair stands. (good_of good pair stands).own), all_of (IsValue (attributes_of volume)) (attributes_of volume) (λ a stands. (good_attribute good a stands).0)),
    all_of (HasValueSizes volume.head.total_blocks volume.head.block_size (attributes_of volume)) (attributes_of volume) (λ a stands. (good_attribute good a stands).1),
  )

  pub good_again : All (IsAttribute (records_of volume)) volume.attribute_pairs → All (IsValue (attributes_of volume)) (attributes_of volume) → All (HasValueSizes volume.head.total_blocks volume.head.block_size (attributes_of volume)) (attributes_of volume)
      → AreGood volume (length volume.attribute_pairs)
  good_again each values sizes k inside =
      let stands = map_stands attribute_of pairs (pair_at pairs k) (pair_stands k inside) in
      record {
        own = each_of (IsAttribute (records_of volume)) pairs each (pair_at pairs k) (pair_stands k inside);
        value = each_of (IsValue (attributes_of volume)) (attributes_of volume) values (attribute_at pairs k) stands;
        sizes = each_of (HasValueSizes volume.head.total_blocks volume.head.block_size (attributes_of volume)) (attributes_of volume) sizes (attribute_at pairs k) stands;
      }
