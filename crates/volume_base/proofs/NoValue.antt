-- Where an attribute has no value, or one that stands in its record, its value has no extents.
use Rattle.std.proofs.Common.{◌≡◌, ℕ, Bool, true, false, List, [], ◌∷◌, ◌++◌, map, inl, inr, refl, sym, ◌∙◌, ap, subst}
use Rattle.std.specs.Prelude.{◌&&◌, ◌==◌, Contains, find, Option, None, Some, if◌then◌else◌}
use Rattle.std.specs.List.{flat_map}
use Rattle.std.specs.Str.{bytes_eq}
use Rattle.std.proofs.lemmas.Bool.{and_parts, eqb-true, true≢false}
use Rattle.std.proofs.lemmas.Slice.Eq.{bytes_eq-Decides}
use Rattle.attributes.specs.declared.value.ValueAt.TheVariants as held
use Rattle.attributes.specs.Values.{AreValued, extents_at, value_at, value_in, value_of_first}
use Rattle.btree_node.specs.Levels.{Pair}
use Rattle.cat_records.specs.declared.attribute.AttrRecord.{AttrRecord}
use Rattle.cat_records.specs.declared.attribute.AttrRecord.TheVariants as attribute
use Rattle.hfs_model.specs.Sorted.{kept}
use Rattle.hfs_volume.specs.Changes.{AreSortedAttributes, attribute_before}
use Rattle.hfs_volume.specs.Forks.{in_use}
use Rattle.hfs_volume.specs.Records.{Attribute, attribute_of}
use Rattle.hfs_volume.specs.Values.{IsValue, IsValueIn, extents_in, has_fork, is_more, is_record_of, used_extents, value_extents}
use Rattle.hfs_volume.proofs.Flat.{found_none, found_some}
use Rattle.hfs_volume.proofs.FoundValue.{first_is_own}
use Rattle.volume_base.proofs.FoundBefore.{found_before, not_before_start}
use Rattle.hfs_volume.proofs.Members.{at_front, behind, each_of, kept_cases}

-- where none passes, none is kept
kept_nothing : {X : Type 0} (test : X → Bool) (xs : List X) → ((x : X) → Contains xs x → test x ≡ false) → kept test xs ≡ []
kept_nothing test [] none = refl
kept_nothing {X} test (x ∷ xs) none = ap (λ b. (if b then x ∷ [] else []) ++ kept test xs) (none x (at_front x xs)) ∙ kept_nothing test xs (λ y there. none y (behind x y xs there))

module _ (pairs : List Pair) (sorted : AreSortedAttributes pairs) (valued : AreValued pairs) (id : ℕ) (name : List ℕ) where
  abbrev attributes : List Attribute
  attributes = map attribute_of pairs

  there : (a : Attribute) → is_more a.value ≡ false → (v : AttrRecord) → a.value ≡ v → value_in (map attribute_of pairs) id name v ≡ None → ⊥
  there a own (attribute.Inline v) same none = cc none
  there a own (attribute.Fork fork) same none = cc none
  there a own (attribute.More e) same none = true≢false (sym (ap is_more same) ∙ own)

  by_first : (o : Option Attribute) → find (is_record_of id name) (map attribute_of pairs) ≡ o → value_of_first (map attribute_of pairs) id name o ≡ None → value_extents (map attribute_of pairs) id name ≡ []
  by_first None found none = ap (flat_map used_extents) (kept_nothing (is_record_of id name) (map attribute_of pairs) (found_none (is_record_of id name) (map attribute_of pairs) found))
  by_first (Some a) found none = absurd (there a (first_is_own (map attribute_of pairs) sorted valued.values id name a found) a.value refl none)

  pub none_extents : value_at pairs id name ≡ None → extents_at pairs id name ≡ []
  none_extents none = by_first (find (is_record_of id name) (map attribute_of pairs)) refl none

  -- of a value that stands in its record there is no other record
  others_none : (first : Attribute) → find (is_record_of id name) (map attribute_of pairs) ≡ Some first → (v : List ℕ) → first.value ≡ attribute.Inline v
      → (a : Attribute) → Contains (map attribute_of pairs) a → is_record_of id name a ≡ true → used_extents a ≡ []
  others_none first found v inline a stands here = elim (found_before attribute_before (is_record_of id name) (map attribute_of pairs) first sorted found a stands here) [
    | inl same ↦ ap used_extents same ∙ ap (λ value. in_use (extents_in value)) inline
    | inr before ↦ of_value a.value refl (each_of (IsValue (map attribute_of pairs)) (map attribute_of pairs) valued.values a stands)
  ]
    where
      it : Contains (map attribute_of pairs) first × (is_record_of id name first ≡ true)
      it = found_some (is_record_of id name) (map attribute_of pairs) first found

      -- a record of the name that stands at 0 is the first
      at_start : (b : Attribute) → Contains (map attribute_of pairs) b → is_record_of id name b ≡ true → b.start ≡ 0 → b ≡ first
      at_start b there named starts = elim (found_before attribute_before (is_record_of id name) (map attribute_of pairs) first sorted found b there named) [
        | inl same ↦ same
        | inr behind_it ↦
            let mine = and_parts (first.id == id) (bytes_eq first.name name) it.1 in
            let its = and_parts (b.id == id) (bytes_eq b.name name) named in
            absurd (true≢false (sym behind_it ∙ not_before_start first b (eqb-true first.id id mine.0 ∙ sym (eqb-true b.id id its.0)) ((bytes_eq-Decides first.name name).0 mine.1 ∙ sym ((bytes_eq-Decides b.name name).0 its.1)) starts))
      ]

      inline_no_fork : (b : Attribute) → b ≡ first → has_fork b.value ≡ true → ⊥
      inline_no_fork b same fork = true≢false (sym fork ∙ ap (λ (x : Attribute). has_fork x.value) same ∙ ap has_fork inline)

      starts_of : (b : Attribute) (value : AttrRecord) → has_fork value ≡ true → IsValueIn (map attribute_of pairs) b value → b.start ≡ 0
      starts_of b (attribute.Inline w) fork is = absurd (true≢false (sym fork))
      starts_of b (attribute.Fork f) fork is = is.0
      starts_of b (attribute.More e) fork is = absurd (true≢false (sym fork))

      of_value : (value : AttrRecord) → a.value ≡ value → IsValueIn (map attribute_of pairs) a a.value → used_extents a ≡ []
      of_value (attribute.Inline w) same is = ap (λ x. in_use (extents_in x)) same
      of_value (attribute.Fork f) same is =
          absurd (inline_no_fork a (at_start a stands here (starts_of a a.value (ap has_fork same) is)) (ap has_fork same))
      of_value (attribute.More e) same is =
          let further : IsValueIn (map attribute_of pairs) a (attribute.More e) = subst (IsValueIn (map attribute_of pairs) a) same is in
          let fork : Attribute = further.0 in
          let key = and_parts (fork.id == a.id) (bytes_eq fork.name a.name) further.2 in
          let named : is_record_of id name fork ≡ true = (λ i. (eqb-true fork.id a.id key.0 i == id) && bytes_eq ((bytes_eq-Decides fork.name a.name).0 key.1 i) name) ∙ here in
          absurd (inline_no_fork fork (at_start fork further.1 named (starts_of fork fork.value further.3 (each_of (IsValue (map attribute_of pairs)) (map attribute_of pairs) valued.values fork further.1))) further.3)

  no_extents : (xs : List Attribute) → ((a : Attribute) → Contains xs a → used_extents a ≡ []) → flat_map used_extents xs ≡ []
  no_extents [] each = refl
  no_extents (x ∷ xs) each = (λ i. each x (at_front x xs) i ++ no_extents xs (λ a there_. each a (behind x a xs there_)) i)

  pub inline_extents : (value : List ℕ) → value_at pairs id name ≡ Some (held.Inline value) → extents_at pairs id name ≡ []
  inline_extents value is = of_first (find (is_record_of id name) (map attribute_of pairs)) refl is
    where
      of_first : (o : Option Attribute) → find (is_record_of id name) (map attribute_of pairs) ≡ o → value_of_first (map attribute_of pairs) id name o ≡ Some (held.Inline value) → value_extents (map attribute_of pairs) id name ≡ []
      of_first None found same = cc same
      of_first (Some first) found same = of_value first.value refl same
        where
          of_value : (v : AttrRecord) → first.value ≡ v → value_in (map attribute_of pairs) id name v ≡ Some (held.Inline value) → value_extents (map attribute_of pairs) id name ≡ []
          of_value (attribute.Inline v) inline told =
              no_extents (kept (is_record_of id name) (map attribute_of pairs)) (λ a among. let from = kept_cases (is_record_of id name) (map attribute_of pairs) a among in others_none first found v inline a from.0 from.1)
          of_value (attribute.Fork f) inline told = absurd (cc told)
          of_value (attribute.More e) inline told = absurd (cc told)
