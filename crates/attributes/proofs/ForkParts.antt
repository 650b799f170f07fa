-- The records of a value in a fork: they go on behind one another, their first blocks rise, and they give the extents together.
use Rattle.std.proofs.Common.{◌≡◌, ℕ, zero, suc, ◌+◌, ◌-◌, ◌*◌, ◌<◌, ◌≤◌, Bool, true, List, [], ◌∷◌, ◌++◌, take, length, map, refl, sym, ◌∙◌, ap, subst, arith}
use Rattle.std.specs.Prelude.{All, IsTrue, not, slice_index_or}
use Rattle.std.specs.List.{flat_map}
use Rattle.std.proofs.lemmas.List.{map-append, take-append-drop, take_more}
use Rattle.hx_bytes.specs.declared.extents.Extent.{Extent}
use Rattle.fork_map.specs.Blocks.{blocks_of}
use Rattle.cat_records.specs.Attributes.{is_attr}
use Rattle.btree_node.specs.Levels.{Pair}
use Rattle.hfs_volume.specs.Blocks.{GoOn}
use Rattle.hfs_volume.specs.Changes.{SetsFork}
use Rattle.hfs_volume.specs.Cost.{overflow_records}
use Rattle.hfs_volume.specs.Forks.{in_use, is_full, parts_for}
use Rattle.hfs_volume.specs.Records.{Attribute, Overflow, attribute_of}
use Rattle.hfs_volume.specs.Values.{GoOnIn, is_more, used_extents}
use Rattle.hfs_model.specs.Sorted.{kept}
use Rattle.overflow.specs.Records.{eight_at, records_for, records_from, under}
use Rattle.overflow.specs.declared.record.OverflowRecord.{OverflowRecord}
use Rattle.overflow.proofs.Changing.{RiseFrom}
use Rattle.overflow.proofs.Cutting.{AreUsed, blocks_cons, eight_full, eight_more, eight_used, records_give, records_go_on, records_rise}
use Rattle.attributes.specs.Dropping.{is_named}
use Rattle.attributes.specs.Forks.{IsShortPair, Part, RisesFrom, SpellParts, SpellsPart, as_pair, first_part, fork_of, further_part, parts_of}
use Rattle.attributes.specs.declared.pair.AttributePair.{AttributePair}
use Rattle.attributes.proofs.Put.{part_record}

-- the record of a part
abbrev pub part_attribute : ℕ → List ℕ → Part → Attribute
part_attribute id name part = record { id = id; name = name; start = part.start; value = part.value }

-- ---- the first blocks rise

rising : (bound : ℕ) (records : List OverflowRecord) → RiseFrom bound records → RisesFrom bound (map further_part records)
rising bound [] rise = tt
rising bound (more ∷ records) rise = (rise.0, rising (suc more.start) records rise.1)

enough : (n : ℕ) → 0 < parts_for (n - 8) 8 → 8 + 8 * (parts_for (n - 8) 8 - 1) < n
enough n some = omega (arith, some)

first_blocks : (extents : List Extent) → AreUsed extents → 0 < parts_for (length extents - 8) 8 → 1 ≤ length (blocks_of (take 8 extents))
first_blocks [] used some = absurd (omega (arith, some))
first_blocks (extent ∷ extents) used some = omega (arith, blocks_cons extent (take 7 extents), used.0)

pub parts_rise : (size : ℕ) (extents : List Extent) → AreUsed extents → RisesFrom 0 (parts_of size extents)
parts_rise size extents used = (omega arith, by_many (parts_for (length extents - 8) 8) refl)
  where
    by_many : (many : ℕ) → parts_for (length extents - 8) 8 ≡ many → RisesFrom 1 (map further_part (records_from many 8 extents))
    by_many zero is = tt
    by_many (suc many) is =
        rising 1 (records_from (suc many) 8 extents) (records_rise (suc many) 8 1 extents used (first_blocks extents used (omega (arith, is))) (λ some. subst (λ n. 8 + 8 * (n - 1) < length extents) is (enough (length extents) (omega (arith, is)))))

-- extents with blocks are no more than their blocks
pub used_many : (extents : List Extent) → AreUsed extents → length extents ≤ length (blocks_of extents)
used_many [] used = omega arith
used_many (extent ∷ extents) used = omega (arith, blocks_cons extent extents, used.0, used_many extents used.1)

-- ---- they go on

going_on : (place : ℕ) (full : Bool) (id : ℕ) (name : List ℕ) (records : List OverflowRecord) → GoOn place full (map (under 0 0) records) → GoOnIn place full (map (part_attribute id name) (map further_part records))
going_on place full id name [] go = tt
going_on place full id name (more ∷ records) go = (go.0, go.1, going_on (place + length (blocks_of more.extents.extents)) (is_full more.extents.extents) id name records go.2, go.3)

pub further_go_on : (id : ℕ) (name : List ℕ) (size : ℕ) (extents : List Extent) → AreUsed extents
    → GoOnIn (length (blocks_of (fork_of size extents).extents.extents)) (is_full (fork_of size extents).extents.extents) (map (part_attribute id name) (map further_part (records_for extents)))
further_go_on id name size extents used =
    going_on (length (blocks_of (eight_at extents 0).extents)) (is_full (eight_at extents 0).extents) id name (records_for extents)
    (records_go_on 0 0 (parts_for (length extents - 8) 8) 8 (length (blocks_of (eight_at extents 0).extents)) (is_full (eight_at extents 0).extents) extents used
    (omega (arith, eight_more extents 0)) (enough (length extents)) (λ some. eight_full extents 0 used (omega (arith, enough (length extents) some))))

-- ---- what they give together

further_extents : (id : ℕ) (name : List ℕ) (records : List OverflowRecord) → flat_map used_extents (map (part_attribute id name) (map further_part records)) ≡ flat_map (λ (more : Overflow). in_use more.extents) (map (under 0 0) records)
further_extents id name [] = refl
further_extents id name (more ∷ records) = ap (λ l. in_use more.extents.extents ++ l) (further_extents id name records)

pub parts_give : (id : ℕ) (name : List ℕ) (size : ℕ) (extents : List Extent) → AreUsed extents
    → in_use (fork_of size extents).extents.extents ++ flat_map used_extents (map (part_attribute id name) (map further_part (records_for extents))) ≡ extents
parts_give id name size extents used =
    (λ i. eight_used extents 0 used i ++ further_extents id name (records_for extents) i)
    ∙ ap (λ l. take 8 extents ++ l) (records_give 0 0 (parts_for (length extents - 8) 8) 8 extents used (omega arith))
    ∙ take-append-drop 8 extents

-- ---- as pairs

pub spelled_records : (id : ℕ) (name : List ℕ) (parts : List Part) (pairs : List AttributePair) → SpellParts id name parts pairs → map attribute_of (map as_pair pairs) ≡ map (part_attribute id name) parts
spelled_records id name [] [] spell = refl
spelled_records id name [] (pair ∷ pairs) spell = absurd spell
spelled_records id name (part ∷ parts) [] spell = absurd spell
spelled_records id name (part ∷ parts) (pair ∷ pairs) spell = λ i. part_record id name part pair spell.0 i ∷ spelled_records id name parts pairs spell.1 i

pub each_spelled : (id : ℕ) (name : List ℕ) (parts : List Part) (pairs : List AttributePair) → SpellParts id name parts pairs → All (λ (pair : Pair). IsTrue (is_attr pair.1)) (map as_pair pairs)
each_spelled id name [] [] spell k d inside = absurd (omega (arith, inside))
each_spelled id name [] (pair ∷ pairs) spell k d inside = absurd spell
each_spelled id name (part ∷ parts) [] spell k d inside = absurd spell
each_spelled id name (part ∷ parts) (pair ∷ pairs) spell zero d inside = spell.0.value.spelled
each_spelled id name (part ∷ parts) (pair ∷ pairs) spell (suc k) d inside = each_spelled id name parts pairs spell.1 k d (omega (arith, inside))

each_further : (id : ℕ) (name : List ℕ) (records : List OverflowRecord) (pairs : List AttributePair) → SpellParts id name (map further_part records) pairs → All (λ (pair : Pair). is_more (attribute_of pair).value ≡ true) (map as_pair pairs)
each_further id name [] [] spell k d inside = absurd (omega (arith, inside))
each_further id name [] (pair ∷ pairs) spell k d inside = absurd spell
each_further id name (more ∷ records) [] spell k d inside = absurd spell
each_further id name (more ∷ records) (pair ∷ pairs) spell zero d inside = ap (λ (a : Attribute). is_more a.value) (part_record id name (further_part more) pair spell.0)
each_further id name (more ∷ records) (pair ∷ pairs) spell (suc k) d inside = each_further id name records pairs spell.1 k d (omega (arith, inside))

-- one more
pub spell_more : (id : ℕ) (name : List ℕ) (parts : List Part) (pairs : List AttributePair) (part : Part) (pair : AttributePair) → SpellParts id name parts pairs → SpellsPart id name part pair → SpellParts id name (parts ++ part ∷ []) (pairs ++ pair ∷ [])
spell_more id name [] [] part pair spell one = (one, tt)
spell_more id name [] (q ∷ pairs) part pair spell one = absurd spell
spell_more id name (p ∷ parts) [] part pair spell one = absurd spell
spell_more id name (p ∷ parts) (q ∷ pairs) part pair spell one = (spell.0, spell_more id name parts pairs part pair spell.1 one)

-- so is a further one
pub spell_next : (id : ℕ) (name : List ℕ) (first : Part) (records : List OverflowRecord) (many : ℕ) (pairs : List AttributePair) (more : OverflowRecord) (pair : AttributePair) → many < length records
    → SpellParts id name (first ∷ map further_part (take many records)) pairs → SpellsPart id name (further_part more) pair → slice_index_or records many more ≡ more → SpellParts id name (first ∷ map further_part (take (many + 1) records)) (pairs ++ pair ∷ [])
spell_next id name first records many pairs more pair inside spell one is =
    subst (λ l. SpellParts id name (first ∷ l) (pairs ++ pair ∷ []))
    (ap (λ m. map further_part (take many records) ++ further_part m ∷ []) (sym is) ∙ sym (ap (map further_part) (take_more records many more inside) ∙ map-append further_part (take many records) (slice_index_or records many more ∷ [])))
    (spell_more id name (first ∷ map further_part (take many records)) pairs (further_part more) pair spell one)

-- the pairs of a fork's records, all of the name, in place of what it had, set the fork
pub sets_fork : (id : ℕ) (name : List ℕ) (size : ℕ) (extents : List Extent) (pairs : List AttributePair) (old new : List Pair) → AreUsed extents → SpellParts id name (parts_of size extents) pairs
    → kept (is_named id name) new ≡ map as_pair pairs → kept (λ pair. not (is_named id name pair)) new ≡ kept (λ pair. not (is_named id name pair)) old → SetsFork id name size extents old new
sets_fork id name size extents [] old new used spell of others = absurd spell
sets_fork id name size extents (first ∷ further) old new used spell of others = record {
  others = others;
  first = as_pair first;
  further = map as_pair further;
  records = of;
  fork = fork_of size extents;
  is_first = part_record id name (first_part size extents) first spell.0;
  are_further = each_further id name (records_for extents) further spell.1;
  go_on = subst (GoOnIn (length (blocks_of (fork_of size extents).extents.extents)) (is_full (fork_of size extents).extents.extents)) (sym (spelled_records id name (map further_part (records_for extents)) further spell.1))
      (further_go_on id name size extents used);
  extents_are = ap (λ l. in_use (fork_of size extents).extents.extents ++ flat_map used_extents l) (spelled_records id name (map further_part (records_for extents)) further spell.1) ∙ parts_give id name size extents used;
  size_is = refl;
  total = refl;
  spelled = each_spelled id name (parts_of size extents) (first ∷ further) spell;
}

-- ---- each has room

pub short_parts : (id : ℕ) (name : List ℕ) (parts : List Part) (pairs : List AttributePair) → length name ≤ 127 → SpellParts id name parts pairs → All IsShortPair pairs
short_parts id name [] [] few spell k d inside = absurd (omega (arith, inside))
short_parts id name [] (pair ∷ pairs) few spell k d inside = absurd spell
short_parts id name (part ∷ parts) [] few spell k d inside = absurd spell
short_parts id name (part ∷ parts) (pair ∷ pairs) few spell zero d inside = record { key = spell.0.key.is_key; short = omega (arith, spell.0.short, spell.0.key.long, few) }
short_parts id name (part ∷ parts) (pair ∷ pairs) few spell (suc k) d inside = short_parts id name parts pairs few spell.1 k d (omega (arith, inside))

pub as_many : (id : ℕ) (name : List ℕ) (parts : List Part) (pairs : List AttributePair) → SpellParts id name parts pairs → length pairs ≡ length parts
as_many id name [] [] spell = refl
as_many id name [] (pair ∷ pairs) spell = absurd spell
as_many id name (part ∷ parts) [] spell = absurd spell
as_many id name (part ∷ parts) (pair ∷ pairs) spell = ap suc (as_many id name parts pairs spell.1)

many_records : (many at : ℕ) (extents : List Extent) → length (map further_part (records_from many at extents)) ≡ many
many_records zero at extents = refl
many_records (suc many) at extents = ap suc (many_records many (at + 8) extents)

pub parts_many : (size : ℕ) (extents : List Extent) → length (parts_of size extents) ≡ 1 + overflow_records (length extents)
parts_many size extents = omega (arith, many_records (parts_for (length extents - 8) 8) 8 extents)
