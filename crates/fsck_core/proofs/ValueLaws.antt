-- Values of attributes: what follows of a fork, and what is found where a record isn't one of a value.
use Rattle.std.proofs.Common.{◌≡◌, ◌≢◌, ◌⊎◌, ◌↔◌, ◌<◌, ◌≤◌, ℕ, zero, suc, ◌+◌, Bool, true, false, not, ◌==◌, List, [], ◌∷◌, length, inl, inr, refl, sym, ◌∙◌, ap, subst, arith, if◌then◌else◌}
use Rattle.std.specs.Prelude.{Contains, Option, Some, None, MatchOption, Result, Ok, Err}
use Rattle.std.specs.List.{flat_map, range_with_len}
use Rattle.std.proofs.lemmas.Bool.{true≢false, eqb-true, eq-eqb}
use Rattle.std.proofs.lemmas.List.{length-append}
use Rattle.std.proofs.lemmas.List.Concat.{flat_map-append}
use Rattle.hx_bytes.specs.declared.extents.Extent.{Extent}
use Rattle.hx_bytes.specs.declared.extents.ExtentRecord.{ExtentRecord}
use Rattle.fork_map.specs.Blocks.{blocks_of}
use Rattle.btree_node.specs.Levels.{Pair}
use Rattle.btree_node.specs.Keys.{attr_file, attr_start}
use Rattle.cat_records.specs.Attributes.{is_attr, attr_of, attr_kind, attr_fault}
use Rattle.cat_records.specs.Records.{bad_record}
use Rattle.cat_records.specs.declared.fault.RecordFault.{RecordFault}
use Rattle.cat_records.specs.declared.fault.RecordFault.TheVariants.{Memory, BadRecord}
use Rattle.cat_records.specs.declared.attribute.AttrRecord.{AttrRecord}
use Rattle.cat_records.specs.declared.attribute.AttrRecord.TheVariants as attribute
use Rattle.hfs_volume.specs.Forks.{is_full, has_extents}
use Rattle.hfs_volume.specs.Records.{Attribute, attribute_of, spelled_value}
use Rattle.hfs_volume.specs.Values.{is_more, extents_in, used_extents, GoOnIn}
use Rattle.hfs_volume.proofs.Members.{at_front, behind}
use Rattle.fsck_core.specs.Attributes.{AreKeyed, attribute_at, GoWholly, end_of, next_part}
use Rattle.fsck_core.specs.Names.{pair_at}
use Rattle.fsck_core.specs.Owners.{next_front}
use Rattle.fsck_core.specs.declared.follow.Front.{Front}
use Rattle.fsck_core.proofs.OwnerLaws.{used_length}

-- ---- one part more

-- What is known of a value behind one part more: the rest goes on so exactly where all does, and ends there.
pub record GoesOnBy (front next : Front) (part : Attribute) (rest : List Attribute) : Type 0 where
  pub on : GoWholly next.place next.full rest → GoWholly front.place front.full (part ∷ rest)
  pub back : GoWholly front.place front.full (part ∷ rest) → GoWholly next.place next.full rest
  pub end : end_of front.place (part ∷ rest) ≡ end_of next.place rest

pub part_followed : (front : Front) (part : Attribute) (value : AttrRecord) (rest : List Attribute) → part.value ≡ value
    → MatchOption (next_part front part value) (¬ GoWholly front.place front.full (part ∷ rest)) (λ next. GoesOnBy front next part rest)
part_followed front part (attribute.Inline v) rest is = λ goes. true≢false (sym goes.0 ∙ ap is_more is)
part_followed front part (attribute.Fork fork) rest is = λ goes. true≢false (sym goes.0 ∙ ap is_more is)
part_followed front part (attribute.More more) rest is = by (part.start == front.place) front.full (has_extents more.extents) refl refl refl
  where
    next : Front
    next = record { place = part.start + length (blocks_of more.extents); full = is_full more.extents }

    Goal : Bool → Bool → Bool → Type 0
    Goal c d e = MatchOption (if not c then None else if not d then None else if not e then None else Some next) (¬ GoWholly front.place front.full (part ∷ rest)) (λ n. GoesOnBy front n part rest)

    extents_are : extents_in part.value ≡ more.extents
    extents_are = ap extents_in is

    by : (c d e : Bool) → (part.start == front.place) ≡ c → front.full ≡ d → has_extents more.extents ≡ e → Goal c d e
    by false d e same full some = λ goes. true≢false (sym (eq-eqb part.start front.place goes.1) ∙ same)
    by true false e same full some = λ goes. true≢false (sym goes.2 ∙ full)
    by true true false same full some = λ goes. true≢false (sym goes.3 ∙ ap has_extents extents_are ∙ some)
    by true true true same full some =
        let place : part.start ≡ front.place = eqb-true part.start front.place same in
        let ends : front.place + length (blocks_of (extents_in part.value)) ≡ next.place = λ i. sym place i + length (blocks_of (extents_are i)) in
        let fills : is_full (extents_in part.value) ≡ next.full = ap is_full extents_are in
        record {
          on = λ goes. (ap is_more is, place, full, ap has_extents extents_are ∙ some, subst (λ n. GoWholly n (is_full (extents_in part.value)) rest) (sym ends) (subst (λ b. GoWholly next.place b rest) (sym fills) goes));
          back = λ goes. subst (λ b. GoWholly next.place b rest) fills (subst (λ n. GoWholly n (is_full (extents_in part.value)) rest) ends goes.4);
          end = ap (λ n. end_of n rest) ends;
        }

-- ---- records that go on wholly

pub all_more : (place : ℕ) (full : Bool) (rest : List Attribute) → GoWholly place full rest → (a : Attribute) → Contains rest a → is_more a.value ≡ true
all_more place full [] goes a stands = absurd (omega (arith, stands.1))
all_more place full (more ∷ rest) goes a (zero, inside, is) = subst (λ (x : Attribute). is_more x.value ≡ true) is goes.0
all_more place full (more ∷ rest) goes a (suc k, inside, is) = all_more (place + length (blocks_of (extents_in more.value))) (is_full (extents_in more.value)) rest goes.4 a (k, omega (arith, inside), is)

pub wholly_goes : (place : ℕ) (full : Bool) (rest : List Attribute) → GoWholly place full rest → GoOnIn place full rest
wholly_goes place full [] goes = tt
wholly_goes place full (more ∷ rest) goes = (goes.1, goes.2, wholly_goes (place + length (blocks_of (extents_in more.value))) (is_full (extents_in more.value)) rest goes.4, goes.3)

pub goes_wholly : (place : ℕ) (full : Bool) (rest : List Attribute) → ((a : Attribute) → Contains rest a → is_more a.value ≡ true) → GoOnIn place full rest → GoWholly place full rest
goes_wholly place full [] all goes = tt
goes_wholly place full (more ∷ rest) all goes =
    (all more (at_front more rest), goes.0, goes.1, goes.3, goes_wholly (place + length (blocks_of (extents_in more.value))) (is_full (extents_in more.value)) rest (λ a stands. all a (behind more a rest stands)) goes.2)

-- some record isn't a further one, or all are
pub stray_or_none : (rest : List Attribute) → ((a : Attribute) × Contains rest a × (is_more a.value ≡ false)) ⊎ ((a : Attribute) → Contains rest a → is_more a.value ≡ true)
stray_or_none [] = inr (λ a stands. absurd (omega (arith, stands.1)))
stray_or_none (r ∷ rest) = by (is_more r.value) refl (stray_or_none rest)
  where
    first : is_more r.value ≡ true → ((a : Attribute) → Contains rest a → is_more a.value ≡ true) → (a : Attribute) → Contains (r ∷ rest) a → is_more a.value ≡ true
    first is all a (zero, inside, same) = subst (λ (x : Attribute). is_more x.value ≡ true) same is
    first is all a (suc k, inside, same) = all a (k, omega (arith, inside), same)

    by : (b : Bool) → is_more r.value ≡ b → ((a : Attribute) × Contains rest a × (is_more a.value ≡ false)) ⊎ ((a : Attribute) → Contains rest a → is_more a.value ≡ true)
        → ((a : Attribute) × Contains (r ∷ rest) a × (is_more a.value ≡ false)) ⊎ ((a : Attribute) → Contains (r ∷ rest) a → is_more a.value ≡ true)
    by false is more = inl (r, at_front r rest, is)
    by true is (inl stray) = inl (stray.0, behind r stray.0 rest stray.1, stray.2)
    by true is (inr all) = inr (first is all)

-- the blocks of records end where the last one does
pub ends_there : (place : ℕ) (rest : List Attribute) → place + length (blocks_of (flat_map used_extents rest)) ≡ end_of place rest
ends_there place [] = omega arith
ends_there place (more ∷ rest) =
    let whole : length (blocks_of (flat_map used_extents (more ∷ rest))) ≡ length (blocks_of (extents_in more.value)) + length (blocks_of (flat_map used_extents rest)) =
    ap length (flat_map-append (λ (e : Extent). range_with_len e.start e.count) (used_extents more) (flat_map used_extents rest))
    ∙ length-append (blocks_of (used_extents more)) (blocks_of (flat_map used_extents rest)) ∙ ap (λ n. n + length (blocks_of (flat_map used_extents rest))) (used_length (extents_in more.value)) in
    let after = ends_there (place + length (blocks_of (extents_in more.value))) rest in
    omega (arith, whole, after)

-- ---- a value that is followed from part to part

-- All goes on exactly where the rest does behind the front, and ends there.
pub record Follows (first : ℕ) (full : Bool) (all : List Attribute) (front : Front) (rest : List Attribute) : Type 0 where
  pub on : GoWholly front.place front.full rest → GoWholly first full all
  pub back : GoWholly first full all → GoWholly front.place front.full rest
  pub end : end_of first all ≡ end_of front.place rest

pub follows_first : (first : ℕ) (full : Bool) (all : List Attribute) (front : Front) → front.place ≡ first → front.full ≡ full → Follows first full all front all
follows_first first full all front place_is full_is =
    subst (λ n. Follows n full all front all) place_is (subst (λ b. Follows front.place b all front all) full_is (record { on = λ goes. goes; back = λ goes. goes; end = refl }))

pub follows_rest : (first : ℕ) (full : Bool) (all : List Attribute) (front : Front) (rest other : List Attribute) → rest ≡ other → Follows first full all front rest → Follows first full all front other
follows_rest first full all front rest other is follows = subst (λ l. Follows first full all front l) is follows

pub follows_more : (first : ℕ) (full : Bool) (all : List Attribute) (front next : Front) (part : Attribute) (rest : List Attribute) (o : Option Front) → o ≡ next_part front part part.value → o ≡ Some next
    → Follows first full all front (part ∷ rest) → Follows first full all next rest
follows_more first full all front next part rest o is some follows =
    let step : GoesOnBy front next part rest = subst (λ (m : Option Front). MatchOption m (¬ GoWholly front.place front.full (part ∷ rest)) (λ n. GoesOnBy front n part rest)) (sym is ∙ some) (part_followed front part part.value rest refl) in
    record { on = λ goes. follows.on (step.on goes); back = λ goes. step.back (follows.back goes); end = follows.end ∙ step.end }

pub follow_stops : (first : ℕ) (full : Bool) (all : List Attribute) (front : Front) (part : Attribute) (rest : List Attribute) (o : Option Front) → o ≡ next_part front part part.value → o ≡ None
    → Follows first full all front (part ∷ rest) → ¬ GoWholly first full all
follow_stops first full all front part rest o is none follows goes =
    subst (λ (m : Option Front). MatchOption m (¬ GoWholly front.place front.full (part ∷ rest)) (λ n. GoesOnBy front n part rest)) (sym is ∙ none) (part_followed front part part.value rest refl) (follows.back goes)

pub follow_ends : (first : ℕ) (full : Bool) (all : List Attribute) (front : Front) (rest : List Attribute) → rest ≡ [] → Follows first full all front rest → GoWholly first full all × (front.place ≡ end_of first all)
follow_ends first full all front rest none follows = let there = follows_rest first full all front rest [] none follows in (there.on tt, sym there.end)

-- ---- what was read of a record

abbrev RefusesAttr : List ℕ → Result AttrRecord RecordFault → Type 0
RefusesAttr value result = (fault : RecordFault) → fault ≢ Memory → (result ≡ Err fault) ↔ (attr_fault value ≡ Some fault)

abbrev is_ok : Result AttrRecord RecordFault → Bool
is_ok (Ok found) = true
is_ok (Err fault) = false

abbrev is_memory : RecordFault → Bool
is_memory Memory = true
is_memory (BadRecord kind long) = false

abbrev is_some : Option RecordFault → Bool
is_some None = false
is_some (Some fault) = true

pub reads : (value : List ℕ) (result : Result AttrRecord RecordFault) (found : AttrRecord) → result ≡ Ok found → found ≡ attr_of value → ((fault : RecordFault) → fault ≢ Memory → (result ≡ Err fault) ↔ (attr_fault value ≡ Some fault))
    → (is_attr value ≡ true) × (spelled_value value ≡ found)
reads value result found ok is refused = by (is_attr value) refl
  where
    fault : RecordFault
    fault = bad_record (attr_kind value) (length value)

    by : (b : Bool) → is_attr value ≡ b → (is_attr value ≡ true) × (spelled_value value ≡ found)
    by true same = (same, ap (λ b. if b then attr_of value else attribute.Inline []) same ∙ sym is)
    by false same =
        let err : result ≡ Err fault = (refused fault (λ other. true≢false (sym (ap is_memory other)))).1 (ap (λ b. if b then None else Some fault) same) in
        absurd (true≢false (ap is_ok (sym ok ∙ err)))

pub unread : (value : List ℕ) (result : Result AttrRecord RecordFault) (kind long : ℕ) → result ≡ Err (BadRecord kind long) → ((fault : RecordFault) → fault ≢ Memory → (result ≡ Err fault) ↔ (attr_fault value ≡ Some fault))
    → (is_attr value ≡ false) × (spelled_value value ≡ attribute.Inline [])
unread value result kind long err refused = by (is_attr value) refl
  where
    by : (b : Bool) → is_attr value ≡ b → (is_attr value ≡ false) × (spelled_value value ≡ attribute.Inline [])
    by true same =
        let some : attr_fault value ≡ Some (BadRecord kind long) = (refused (BadRecord kind long) (λ other. true≢false (sym (ap is_memory other)))).0 err in
        absurd (true≢false (sym (ap is_some (sym (ap (λ b. if b then None else Some (bad_record (attr_kind value) (length value))) same) ∙ some))))
    by false same = (same, ap (λ b. if b then attr_of value else attribute.Inline []) same)

pub value_at_is : (pairs : List Pair) (k : ℕ) → (attribute_at pairs k).value ≡ spelled_value (pair_at pairs k).1
unfolding attribute_of
value_at_is pairs k = refl

pub start_at_is : (pairs : List Pair) (k : ℕ) → (attribute_at pairs k).start ≡ attr_start (pair_at pairs k).0
unfolding attribute_of
start_at_is pairs k = refl

pub id_at_is : (pairs : List Pair) (k : ℕ) → (attribute_at pairs k).id ≡ attr_file (pair_at pairs k).0
unfolding attribute_of
id_at_is pairs k = refl

-- the value of the record at a place, as it was read
pub value_read : (pairs : List Pair) (k : ℕ) (value : List ℕ) (result : Result AttrRecord RecordFault) (found : AttrRecord) → value ≡ (pair_at pairs k).1 → result ≡ Ok found → found ≡ attr_of value
    → ((fault : RecordFault) → fault ≢ Memory → (result ≡ Err fault) ↔ (attr_fault value ≡ Some fault)) → (is_attr (pair_at pairs k).1 ≡ true) × ((attribute_at pairs k).value ≡ found)
value_read pairs k value result found there ok is refused =
    let both = reads value result found ok is refused in
    (sym (ap is_attr there) ∙ both.0, value_at_is pairs k ∙ sym (ap spelled_value there) ∙ both.1)

pub value_unread : (pairs : List Pair) (k : ℕ) (value : List ℕ) (result : Result AttrRecord RecordFault) (kind long : ℕ) → value ≡ (pair_at pairs k).1 → result ≡ Err (BadRecord kind long)
    → ((fault : RecordFault) → fault ≢ Memory → (result ≡ Err fault) ↔ (attr_fault value ≡ Some fault)) → (is_attr (pair_at pairs k).1 ≡ false) × ((attribute_at pairs k).value ≡ attribute.Inline [])
value_unread pairs k value result kind long there err refused =
    let both = unread value result kind long err refused in
    (sym (ap is_attr there) ∙ both.0, value_at_is pairs k ∙ sym (ap spelled_value there) ∙ both.1)

pub key_long : (pairs : List Pair) (keyed : AreKeyed pairs) (k : ℕ) (key : List ℕ) → k < length pairs → key ≡ (pair_at pairs k).0 → 14 ≤ length key
key_long pairs keyed k key inside is = subst (λ (l : List ℕ). 14 ≤ length l) (sym is) (keyed.keys k ([], []) inside).long

pub next_more : (front : Front) (own : Attribute) (start : ℕ) (extents : ExtentRecord) → own.value ≡ attribute.More extents → start ≡ own.start
    → next_front 0 0 front (record { fork = 0; id = 0; start = start; extents = extents }) ≡ next_part front own own.value
next_more front own start extents value_is start_is = ap (λ s. next_front 0 0 front (record { fork = 0; id = 0; start = s; extents = extents })) start_is ∙ sym (ap (next_part front own) value_is)
