-- Pairs of one name put in one after another, in the order of their keys.
use Rattle.std.proofs.Common.{◌≡◌, inl, inr, ℕ, suc, ◌+◌, ◌<◌, ◌≤◌, Bool, true, false, List, [], ◌∷◌, ◌++◌, take, drop, length, map, refl, sym, ◌∙◌, ap, subst, arith}
use Rattle.std.specs.Prelude.{Contains, slice_index_or, ◌==◌, not, if◌then◌else◌}
use Rattle.std.specs.Cmp.{nat_cmp_is}
use Rattle.std.specs.declared.cmp.Ordering.TheVariants.{Greater, Less}
use Rattle.std.specs.Str.{bytes_eq}
use Rattle.std.proofs.lemmas.Bool.{and_from, eq-eqb}
use Rattle.std.proofs.lemmas.Slice.Eq.{bytes_eq-Decides}
use Rattle.std.proofs.lemmas.List.Elements.{Contains-get_or}
use Rattle.std.proofs.lemmas.List.{append-nil, get_or_default, get_or-drop, length-drop, map-append, take-append-drop, take_all, take_more}
use Rattle.std.proofs.Math.Seq.{drop-cons}
use Rattle.btree_node.specs.Keys.{attr_cmp, attr_start}
use Rattle.btree_node.specs.Levels.{Pair}
use Rattle.btree_node.specs.Store.{Store}
use Rattle.btree_node.specs.Tree.{pairs_of}
use Rattle.btree_edit.specs.Answers.{AnswersInsert}
use Rattle.btree_edit.specs.Sorted.{InsertsPair}
use Rattle.btree_edit.specs.declared.edits.Inserted.{Inserted}
use Rattle.btree_edit.specs.declared.edits.Inserted.TheVariants as inserted
use Rattle.hfs_model.specs.Sorted.{kept}
use Rattle.hfs_volume.specs.Changes.{Adds, is_attribute_of}
use Rattle.hfs_volume.specs.Records.{Attribute, attribute_of}
use Rattle.hfs_volume.proofs.Members.{inserted_cases}
use Rattle.attributes.specs.Dropping.{is_named}
use Rattle.attributes.specs.Forks.{Part, PutsParts, RisesFrom, SpellParts, SpellsPart, as_pair}
use Rattle.attributes.specs.Values.{AreSpelled, IsSpelledAttribute}
use Rattle.attributes.specs.declared.pair.AttributePair.{AttributePair}
use Rattle.attributes.proofs.Firsts.{named_parts, start_is}
use Rattle.attributes.proofs.Lists.{false_so, kept_append, none_kept, not_so, plus_one}
use Rattle.attributes.proofs.Places.{by_start, tied_starts}
use Rattle.attributes.proofs.Put.{none_at, part_record, part_spelled, ties_named}
use Rattle.attributes.proofs.Removing.{each_more}

-- each record of the name begins before a block
abbrev pub BeginBefore : ℕ → List ℕ → ℕ → List Pair → Type 0
BeginBefore id name bound pairs = (pair : Pair) → Contains pairs pair → is_named id name pair ≡ true → (attribute_of pair).start < bound

-- ---- one pair more

pub record PutsOne (id : ℕ) (name : List ℕ) (item : Pair) (old new : List Pair) : Type 0 where
  pub of : kept (is_named id name) new ≡ kept (is_named id name) old ++ item ∷ []
  pub others : kept (λ pair. not (is_named id name pair)) new ≡ kept (λ pair. not (is_named id name pair)) old
  pub adds : Adds item old new

greater_or_less : Greater ≡ Less → ⊥
greater_or_less same = cc

module _ (id : ℕ) (name : List ℕ) (part : Part) (pair : AttributePair) (spells : SpellsPart id name part pair) (bound : ℕ) (rises : bound ≤ part.start) where
  abbrev test : Pair → Bool
  test = is_named id name

  abbrev rest : Pair → Bool
  rest p = not (is_named id name p)

  passes : test (as_pair pair) ≡ true
  passes = ap (is_attribute_of id name) (part_record id name part pair spells) ∙ and_from (id == id) (bytes_eq name name) (eq-eqb id id refl) ((bytes_eq-Decides name name).1 refl)

  -- a record of the name that begins before the bound has a lesser key
  lesser : (other : Pair) → test other ≡ true → (attribute_of other).start < bound → attr_cmp other.0 pair.key ≡ Less
  lesser other named low =
      let parts = named_parts id name other named in
      by_start other.0 pair.key (parts.0 ∙ sym spells.key.id_is) (parts.1 ∙ sym spells.key.name_is)
      ∙ sym (nat_cmp_is (attr_start other.0) (attr_start pair.key) Less (omega (arith, low, rises, spells.key.start_is, start_is other)))

  pub put_one : (store : Store) (new : List Pair) (answer : Inserted) → BeginBefore id name bound (pairs_of store) → AnswersInsert attr_cmp pair.key store answer
      → InsertsPair attr_cmp pair.key pair.value (pairs_of store) new answer → PutsOne id name (as_pair pair) (pairs_of store) new
  put_one store new inserted.Exists before answers inserts =
      let old = pairs_of store in
      let there = slice_index_or old answers.0 ([], []) in
      let named = ties_named id name part.start pair.key there spells.key answers.2 in
      let low = before there (Contains-get_or old answers.0 ([], []) answers.1) named in
      absurd (omega (arith, low, rises, spells.key.start_is, start_is there, tied_starts there.0 pair.key answers.2))
  put_one store new inserted.Done before answers inserts =
      let old = pairs_of store in
      let front = take inserts.place old in
      let back = drop inserts.place old in
      let none : kept test back ≡ [] = none_kept test back ([], []) (λ k inside. false_so (test (slice_index_or back k ([], []))) (λ named.
      let fits : inserts.place + k < length old = omega (arith, inside, length-drop inserts.place old) in
      let same = get_or-drop inserts.place old k ([], []) in
      let at = slice_index_or old (inserts.place + k) ([], []) in
      let named_at : test at ≡ true = ap test (sym same) ∙ named in
      absurd (greater_or_less (sym (inserts.behind (inserts.place + k) (omega arith) fits) ∙ lesser at named_at (before at (Contains-get_or old (inserts.place + k) ([], []) fits) named_at))))) in
      let whole : (t : Pair → Bool) → kept t old ≡ kept t front ++ kept t back = λ t. sym (ap (kept t) (take-append-drop inserts.place old)) ∙ kept_append t front back in
      record {
        of =
            ap (kept test) inserts.is ∙ kept_append test front (as_pair pair ∷ back)
            ∙ (λ i. kept test front ++ ((if passes i then as_pair pair ∷ [] else []) ++ none i))
            ∙ ap (λ l. l ++ as_pair pair ∷ []) (sym (whole test ∙ ap (λ l. kept test front ++ l) none ∙ append-nil (kept test front)));
        others = ap (kept rest) inserts.is ∙ kept_append rest front (as_pair pair ∷ back) ∙ (λ i. kept rest front ++ ((if not (passes i) then as_pair pair ∷ [] else []) ++ kept rest back)) ∙ sym (whole rest);
        adds = record { place = inserts.place; within = inserts.inside; is = inserts.is };
      }

  -- behind it each record of the name begins at most where it does
  pub still_before : (old new : List Pair) → BeginBefore id name bound old → PutsOne id name (as_pair pair) old new → BeginBefore id name (suc part.start) new
  still_before old new before puts other there named = elim (inserted_cases old puts.adds.place (as_pair pair) other (subst (λ l. Contains l other) puts.adds.is there)) [
    | inl same ↦ omega (arith, ap (λ (p : Pair). (attribute_of p).start) same, ap (λ (a : Attribute). a.start) (part_record id name part pair spells))
    | inr was ↦ omega (arith, before other was named, rises)
  ]

-- ---- all of them

-- What is known when so many of the pairs were put in: the records that are still to come begin behind all that are there.
pub record PutsSoFar (id : ℕ) (name : List ℕ) (pairs : List AttributePair) (many : ℕ) (old new : List Pair) : Type 0 where
  pub rest : List Part
  pub bound : ℕ
  pub spell : SpellParts id name rest (drop many pairs)
  pub rise : RisesFrom bound rest
  pub before : BeginBefore id name bound new
  pub of : kept (is_named id name) new ≡ map as_pair (take many pairs)
  pub others : kept (λ pair. not (is_named id name pair)) new ≡ kept (λ pair. not (is_named id name pair)) old
  pub spelled : AreSpelled new

none_in : (test : Pair → Bool) (pairs : List Pair) → kept test pairs ≡ [] → (pair : Pair) → Contains pairs pair → test pair ≡ false
none_in test pairs none pair there = ap test (sym (get_or_default pairs there.0 ([], []) pair there.1 ∙ there.2)) ∙ none_at test pairs ([], []) none there.0 there.1

pub puts_none : (id : ℕ) (name : List ℕ) (parts : List Part) (pairs : List AttributePair) (old : List Pair) → SpellParts id name parts pairs → RisesFrom 0 parts → kept (is_named id name) old ≡ [] → AreSpelled old → PutsSoFar id name pairs 0 old old
puts_none id name parts pairs old spell rise none spelled = record {
  rest = parts;
  bound = 0;
  spell = spell;
  rise = rise;
  before = λ pair there named. absurd (not_so (sym (none_in (is_named id name) old none pair there) ∙ named));
  of = none;
  others = refl;
  spelled = spelled;
}

abbrev pub no_pair : AttributePair
no_pair = record { key = []; value = [] }

-- the next pair and its part
pub record Next (id : ℕ) (name : List ℕ) (pairs : List AttributePair) (many bound : ℕ) : Type 0 where
  pub part : Part
  pub rest : List Part
  pub spells : SpellsPart id name part (slice_index_or pairs many no_pair)
  pub spell : SpellParts id name rest (drop (suc many) pairs)
  pub rises : bound ≤ part.start
  pub rise : RisesFrom (suc part.start) rest

next_of : (id : ℕ) (name : List ℕ) (pairs : List AttributePair) (many bound : ℕ) (parts : List Part) → many < length pairs → SpellParts id name parts (drop many pairs) → RisesFrom bound parts → Next id name pairs many bound
next_of id name pairs many bound parts inside spell rise = by_parts parts (subst (SpellParts id name parts) (drop-cons pairs many no_pair inside) spell) rise
  where
    by_parts : (ps : List Part) → SpellParts id name ps (slice_index_or pairs many no_pair ∷ drop (suc many) pairs) → RisesFrom bound ps → Next id name pairs many bound
    by_parts [] spell_here rise_here = absurd spell_here
    by_parts (part ∷ rest) spell_here rise_here = record { part = part; rest = rest; spells = spell_here.0; spell = spell_here.1; rises = rise_here.0; rise = rise_here.1 }

pub puts_next : (id : ℕ) (name : List ℕ) (pairs : List AttributePair) (many : ℕ) (old : List Pair) (store : Store) (new : List Pair) (pair : AttributePair) (answer : Inserted) → 1 ≤ length name → many < length pairs
    → PutsSoFar id name pairs many old (pairs_of store) → pair ≡ slice_index_or pairs many no_pair → AnswersInsert attr_cmp pair.key store answer → InsertsPair attr_cmp pair.key pair.value (pairs_of store) new answer
    → PutsSoFar id name pairs (many + 1) old new
puts_next id name pairs many old store new pair answer some inside far is answers inserts =
    let next = next_of id name pairs many far.bound far.rest inside far.spell far.rise in
    let spells : SpellsPart id name next.part pair = subst (SpellsPart id name next.part) (sym is) next.spells in
    let one = put_one id name next.part pair spells far.bound next.rises store new answer far.before answers inserts in
    record {
      rest = next.rest;
      bound = suc next.part.start;
      spell = subst (λ n. SpellParts id name next.rest (drop n pairs)) (sym (plus_one many)) next.spell;
      rise = next.rise;
      before = still_before id name next.part pair spells far.bound next.rises (pairs_of store) new far.before one;
      of =
          one.of ∙ ap (λ l. l ++ as_pair pair ∷ []) far.of ∙ ap (λ p. map as_pair (take many pairs) ++ as_pair p ∷ []) is
          ∙ sym (ap (map as_pair) (take_more pairs many no_pair inside) ∙ map-append as_pair (take many pairs) (slice_index_or pairs many no_pair ∷ []));
      others = one.others ∙ far.others;
      spelled = each_more IsSpelledAttribute (as_pair pair) (pairs_of store) new one.adds (part_spelled id name next.part pair some spells) far.spelled;
    }

pub puts_all : (id : ℕ) (name : List ℕ) (pairs : List AttributePair) (many : ℕ) (old new : List Pair) → length pairs ≤ many → PutsSoFar id name pairs many old new → PutsParts id name pairs old new
puts_all id name pairs many old new all far = record { of = far.of ∙ ap (map as_pair) (take_all many pairs all); others = far.others; spelled = far.spelled }
