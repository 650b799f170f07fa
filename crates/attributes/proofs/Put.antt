-- Records put in where none of their name begins with the same block.
use Rattle.std.proofs.Common.{◌≡◌, ℕ, zero, suc, ◌<◌, ◌≤◌, Bool, true, false, List, [], ◌∷◌, ◌++◌, length, map, refl, sym, ◌∙◌, ap, subst, arith}
use Rattle.std.specs.Prelude.{slice_index_or, if◌then◌else◌}
use Rattle.std.specs.declared.cmp.Ordering.TheVariants.{Equal}
use Rattle.std.proofs.lemmas.List.{length-map}
use Rattle.btree_node.specs.Keys.{attr_cmp}
use Rattle.btree_node.specs.Levels.{Pair}
use Rattle.btree_node.specs.Store.{Store}
use Rattle.btree_node.specs.Tree.{pairs_of}
use Rattle.btree_edit.specs.Answers.{AnswersInsert}
use Rattle.btree_edit.specs.Sorted.{InsertsPair}
use Rattle.btree_edit.specs.declared.edits.Inserted.{Inserted}
use Rattle.btree_edit.specs.declared.edits.Inserted.TheVariants as inserted
use Rattle.cat_records.specs.Attributes.{attr_of}
use Rattle.cat_records.specs.declared.attribute.AttrRecord.TheVariants as attribute
use Rattle.hfs_model.specs.Sorted.{kept}
use Rattle.hfs_volume.specs.Changes.{Adds, DropsAttribute}
use Rattle.hfs_volume.specs.Records.{Attribute, attribute_of}
use Rattle.hfs_volume.proofs.Counting.{map_insert}
use Rattle.hfs_volume.proofs.Valued.{values_with}
use Rattle.attributes.specs.Dropping.{is_named}
use Rattle.attributes.specs.Forks.{Part, SpellsPart, inline_part}
use Rattle.attributes.specs.Values.{AreValued, IsKeyOf, IsSpelledAttribute, SetsValue}
use Rattle.attributes.specs.declared.pair.AttributePair.{AttributePair}
use Rattle.attributes.proofs.Lists.{none_left, not_so}
use Rattle.attributes.proofs.Places.{tied_is_under}
use Rattle.attributes.proofs.Removing.{each_more}

-- ---- one record

-- the record that a pair spells
pub part_record : (id : ℕ) (name : List ℕ) (part : Part) (pair : AttributePair) → SpellsPart id name part pair → attribute_of (pair.key, pair.value) ≡ record { id = id; name = name; start = part.start; value = part.value }
unfolding attribute_of
part_record id name part pair spells =
    let value = ap (λ (b : Bool). if b then attr_of pair.value else attribute.Inline []) spells.value.spelled ∙ spells.value.read in
    λ i. record { id = spells.key.id_is i; name = spells.key.name_is i; start = spells.key.start_is i; value = value i }

pub part_spelled : (id : ℕ) (name : List ℕ) (part : Part) (pair : AttributePair) → 1 ≤ length name → SpellsPart id name part pair → IsSpelledAttribute (pair.key, pair.value)
part_spelled id name part pair some spells = record {
  spelled = spells.value.spelled;
  named = subst (λ (a : Attribute). 0 < length a.name) (sym (part_record id name part pair spells)) some;
}

-- a key of a name ties with records of it alone
pub ties_named : (id : ℕ) (name : List ℕ) (start : ℕ) (key : List ℕ) (pair : Pair) → IsKeyOf id name start key → attr_cmp pair.0 key ≡ Equal → is_named id name pair ≡ true
ties_named id name start key pair is ties = (λ i. is_named (sym is.id_is i) (sym is.name_is i) pair) ∙ tied_is_under pair key ties

-- where none passes, none at a place does
pub none_at : {X : Type 0} (test : X → Bool) (xs : List X) (d : X) → kept test xs ≡ [] → (k : ℕ) → k < length xs → test (slice_index_or xs k d) ≡ false
none_at test [] d none k inside = absurd (omega (arith, inside))
none_at {X} test (x ∷ xs) d none k inside = by_test (test x) refl k inside (none_at test xs d)
  where
    by_test : (b : Bool) → test x ≡ b → (k : ℕ) → k < suc (length xs) → (kept test xs ≡ [] → (i : ℕ) → i < length xs → test (slice_index_or xs i d) ≡ false) → test (slice_index_or (x ∷ xs) k d) ≡ false
    by_test true is k inside rest = absurd (omega (arith, ap (λ (l : List X). length l) (sym (λ i. (if is i then x ∷ [] else []) ++ kept test xs) ∙ none)))
    by_test false is zero inside rest = is
    by_test false is (suc k) inside rest = rest (sym (λ i. (if is i then x ∷ [] else []) ++ kept test xs) ∙ none) k (omega (arith, inside))

-- ---- a value in its record

-- an insertion behind the removal of all records of the name
pub sets_value : (id : ℕ) (name value : List ℕ) (pair : AttributePair) (old : List Pair) (bared : Store) (new : List Pair) (answer : Inserted) → SpellsPart id name (inline_part value) pair → DropsAttribute id name old (pairs_of bared)
    → AnswersInsert attr_cmp pair.key bared answer → InsertsPair attr_cmp pair.key pair.value (pairs_of bared) new answer → SetsValue id name value old new
sets_value id name value pair old bared new inserted.Exists spells drops answers inserts =
    let none : kept (is_named id name) (pairs_of bared) ≡ [] = ap (kept (is_named id name)) drops ∙ none_left (is_named id name) old in
    let at = slice_index_or (pairs_of bared) answers.0 ([], []) in
    absurd (not_so (sym (none_at (is_named id name) (pairs_of bared) ([], []) none answers.0 answers.1) ∙ ties_named id name 0 pair.key at spells.key answers.2))
sets_value id name value pair old bared new inserted.Done spells drops answers inserts = record {
  bared = pairs_of bared;
  bares = drops;
  adds = record {
    pair = (pair.key, pair.value);
    stands = part_record id name (inline_part value) pair spells;
    spelled = spells.value.spelled;
    added = record { place = inserts.place; within = inserts.inside; is = inserts.is };
  };
}

mapped_adds : (item : Pair) (old new : List Pair) → Adds item old new → Adds (attribute_of item) (map attribute_of old) (map attribute_of new)
mapped_adds item old new adds = record {
  place = adds.place;
  within = omega (arith, adds.within, length-map old attribute_of);
  is = ap (map attribute_of) adds.is ∙ map_insert attribute_of old adds.place item;
}

-- it leaves values
pub put_valued : (id : ℕ) (name value : List ℕ) (pair : AttributePair) (bared : Store) (new : List Pair) (answer : Inserted) → 1 ≤ length name → SpellsPart id name (inline_part value) pair
    → InsertsPair attr_cmp pair.key pair.value (pairs_of bared) new answer → AreValued (pairs_of bared) → AreValued new
put_valued id name value pair bared new inserted.Exists some spells same valued = subst AreValued (sym same) valued
put_valued id name value pair bared new inserted.Done some spells inserts valued =
    let item : Pair = (pair.key, pair.value) in
    let adds : Adds item (pairs_of bared) new = record { place = inserts.place; within = inserts.inside; is = inserts.is } in
    let stands = part_record id name (inline_part value) pair spells in
    record {
      each = each_more IsSpelledAttribute item (pairs_of bared) new adds (part_spelled id name (inline_part value) pair some spells) valued.each;
      values = values_with (attribute_of item) (value, ap (λ (a : Attribute). a.value) stands) (map attribute_of (pairs_of bared)) (map attribute_of new) (mapped_adds item (pairs_of bared) new adds)
          (ap (λ (a : Attribute). a.start) stands) valued.values;
    }
