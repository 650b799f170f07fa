-- Slots by the sectors that they name and by their bytes, which stand side by side.
use Rattle.std.proofs.Common.{◌≡◌, ◌≢◌, ◌⊎◌, ◌<◌, ◌≤◌, ◌+◌, ◌-◌, ◌%◌, ℕ, suc, zero, Bool, true, false, List, [], ◌∷◌, ◌++◌, inl, inr, length, get_or, set, take, drop, refl, sym, ◌∙◌, ap, subst, arith, replicate, length-set}
use Rattle.std.specs.Prelude.{Option, None, Some, if◌then◌else◌}
use Rattle.std.specs.List.{flat_map}
use Rattle.std.proofs.lemmas.Bool.{cases_eq, cases_lt, eq-eqb, ne_eqb}
use Rattle.std.proofs.lemmas.List.{get_or_default, set_past, get_or-set_same, get_or-set_other, get_or-take, get_or-drop, length-take-le, length-drop}
use Rattle.sector_disk.specs.Lists.{Content, run_of, sector}
use Rattle.jnl_replay.specs.declared.plan.Plan.{Plan}
use Rattle.jnl_store.specs.Batch.{is_dropped}
use Rattle.jnl_store.specs.Journal.{is_closed}
use Rattle.jnl_store.specs.Cache.{AreRead, AreSlots, EachBecomes, EachReread, IsKept, IsRead, IsReread, KeepsRun, OthersStand, Slots, holds, is_of, sized_slot, slot_of, slot_with, slots_with, undone_name, undone_slot, with_slot}
use Rattle.jnl_store.specs.declared.puts.Put.{Put}
use Rattle.jnl_store.proofs.Cached.{reread_now, reread_same}

-- the slot of a name and of 512 bytes
pub slot_is : (at : ℕ) (bytes : List ℕ) → length bytes ≡ 512 → (put : Put) × (slot_with (Some at) bytes ≡ Some put) × (put.at ≡ at) × (put.bytes ≡ bytes)
slot_is at bytes whole = sized (cases_eq (length bytes) 512)
  where
    sized : (s : (length bytes ≡ 512) ⊎ (length bytes ≢ 512)) → (put : Put) × (sized_slot at bytes s ≡ Some put) × (put.at ≡ at) × (put.bytes ≡ bytes)
    sized (inl w) = (record { at = at; bytes = bytes; whole = w }, refl, refl, refl)
    sized (inr other) = absurd (other whole)

pub length-slots : (names : List (Option ℕ)) (bytes : List (List ℕ)) → length (slots_with names bytes) ≡ length names
length-slots [] bytes = refl
length-slots (n ∷ ns) [] = ap suc (length-slots ns [])
length-slots (n ∷ ns) (b ∷ bs) = ap suc (length-slots ns bs)

unsized : (name : Option ℕ) → slot_with name [] ≡ None
unsized None = refl
unsized (Some at) = sized (cases_eq 0 512)
  where
    sized : (s : (length {A = ℕ} [] ≡ 512) ⊎ (length {A = ℕ} [] ≢ 512)) → sized_slot at [] s ≡ None
    sized (inl w) = absurd (omega (arith, w))
    sized (inr other) = refl

-- each of the slots
pub get_or-slots : (names : List (Option ℕ)) (bytes : List (List ℕ)) (k : ℕ) → get_or (slots_with names bytes) k None ≡ slot_with (get_or names k None) (get_or bytes k [])
get_or-slots [] bytes k = refl
get_or-slots (n ∷ ns) [] zero = sym (unsized n)
get_or-slots (n ∷ ns) [] (suc k) = get_or-slots ns [] k
get_or-slots (n ∷ ns) (b ∷ bs) zero = refl
get_or-slots (n ∷ ns) (b ∷ bs) (suc k) = get_or-slots ns bs k

pub slots_none : (count : ℕ) (bytes : List (List ℕ)) → slots_with (replicate count None) bytes ≡ replicate count None
slots_none zero bytes = refl
slots_none (suc n) [] = ap (λ (l : Slots). None ∷ l) (slots_none n [])
slots_none (suc n) (b ∷ bs) = ap (λ (l : Slots). None ∷ l) (slots_none n bs)

-- a slot is emptied, and one gets another name and other bytes
pub slots_emptied : (names : List (Option ℕ)) (bytes : List (List ℕ)) (k : ℕ) → slots_with (set names k None) bytes ≡ set (slots_with names bytes) k None
slots_emptied [] bytes k = refl
slots_emptied (n ∷ ns) [] zero = refl
slots_emptied (n ∷ ns) [] (suc k) = ap (λ (l : Slots). None ∷ l) (slots_emptied ns [] k)
slots_emptied (n ∷ ns) (b ∷ bs) zero = refl
slots_emptied (n ∷ ns) (b ∷ bs) (suc k) = ap (λ (l : Slots). slot_with n b ∷ l) (slots_emptied ns bs k)

pub slots_set : (names : List (Option ℕ)) (bytes : List (List ℕ)) (k : ℕ) (name : Option ℕ) (value : List ℕ) → length bytes ≡ length names → slots_with (set names k name) (set bytes k value) ≡ set (slots_with names bytes) k (slot_with name value)
slots_set [] [] k name value long = refl
slots_set [] (b ∷ bs) k name value long = refl
slots_set (n ∷ ns) [] k name value long = absurd (omega (arith, long))
slots_set (n ∷ ns) (b ∷ bs) zero name value long = refl
slots_set (n ∷ ns) (b ∷ bs) (suc k) name value long = ap (λ (l : Slots). slot_with n b ∷ l) (slots_set ns bs k name value (omega (arith, long)))

pub are_set : (names : List (Option ℕ)) (bytes : List (List ℕ)) (k j : ℕ) (name : Option ℕ) (value : List ℕ) → length value ≡ 512 → AreSlots names bytes → AreSlots (set names k name) (set bytes j value)
are_set names bytes k j name value whole are = (
  length-set bytes j value ∙ are.0 ∙ sym (length-set names k name),
  λ i below. elim (cases_eq i j) [
    | inl same ↦ ap (λ n. length (get_or (set bytes j value) n [])) same ∙ ap length (get_or-set_same bytes j value [] (omega (arith, below, length-set bytes j value, same))) ∙ whole
    | inr apart ↦ ap length (get_or-set_other bytes j i value [] apart) ∙ are.1 i (omega (arith, below, length-set bytes j value))
  ],
)

-- the bytes of sectors one after another
run_same : (content : Content) (list : List (List ℕ)) (at : ℕ) → ((k : ℕ) → k < length list → sector content (at + k) ≡ get_or list k []) → flat_map (λ x. x) list ≡ run_of content at (length list)
run_same content [] at each = refl
run_same content (x ∷ xs) at each =
    let here : sector content at ≡ x = ap (sector content) {x = at} {y = at + 0} (omega arith) ∙ each 0 (omega arith) in
    ap (λ (l : List ℕ). l ++ flat_map (λ x. x) xs) (sym here)
    ∙ ap (λ (l : List ℕ). sector content at ++ l) (run_same content xs (at + 1) (λ k below. let behind : at + 1 + k ≡ at + suc k = omega arith in ap (sector content) behind ∙ each (suc k) (omega (arith, below))))

-- the bytes that so many slots from one on keep, which name the sectors from `at` on
pub keeps_run : (names : List (Option ℕ)) (bytes : List (List ℕ)) (first many at : ℕ) → AreSlots names bytes → first + many ≤ length names → ((k : ℕ) → k < many → get_or names (first + k) None ≡ Some (at + k)) → KeepsRun (slots_with names bytes) at many (flat_map (λ x. x) (take many (drop first bytes)))
keeps_run names bytes first many at are inside named content cached =
    let part = take many (drop first bytes) in
    let long : length part ≡ many = length-take-le many (drop first bytes) (omega (arith, length-drop first bytes, are.0, inside)) in
    run_same content part at (λ k below. each k (omega (arith, below, long))) ∙ ap (run_of content at) long
  where
    each : (k : ℕ) → k < many → sector content (at + k) ≡ get_or (take many (drop first bytes)) k []
    each k below =
        let put = slot_is (at + k) (get_or bytes (first + k) []) (are.1 (first + k) (omega (arith, are.0, inside, below))) in
        let there = get_or-slots names bytes (first + k) ∙ ap (λ (n : Option ℕ). slot_with n (get_or bytes (first + k) [])) (named k below) ∙ put.1 in
        let h = cached (first + k) put.0 (omega (arith, length-slots names bytes, inside, below)) there in
        ap (sector content) (sym put.2) ∙ h.1 ∙ put.3 ∙ sym (get_or-take many (drop first bytes) k [] below ∙ get_or-drop first bytes k [])

-- the same of what was lent, of slots whose count is `count`
pub held_run : (names lent_names : List (Option ℕ)) (bytes lent : List (List ℕ)) (now : Slots) (count at many : ℕ) (result : List ℕ) → AreSlots names bytes → slots_with names bytes ≡ now → count ≡ length names → 0 < count → many ≤ count - at % count
    → lent_names ≡ names → lent ≡ bytes → ((k : ℕ) → k < length (take (at % count + many - at % count) (drop (at % count) lent_names)) → get_or (take (at % count + many - at % count) (drop (at % count) lent_names)) k None ≡ Some (at + k))
    → result ≡ flat_map (λ x. x) (take (at % count + many - at % count) (drop (at % count) lent)) → KeepsRun now at many result
held_run names lent_names bytes lent now count at many result are view long some room named_is lent_is named is =
    let first = at % count in
    let inside : first + many ≤ length names = omega (arith, long, room, some) in
    let many_is : first + many - first ≡ many = omega arith in
    let each : (k : ℕ) → k < many → get_or names (first + k) None ≡ Some (at + k) = λ k below.
    sym (get_or-take many (drop first names) k None below ∙ get_or-drop first names k None)
    ∙ ap (λ (l : List (Option ℕ)). get_or (take many (drop first l)) k None) (sym named_is)
    ∙ ap (λ n. get_or (take n (drop first lent_names)) k None) (sym many_is)
    ∙ named k (omega (arith, below, ap (λ n. length (take n (drop first lent_names))) many_is, ap (λ (l : List (Option ℕ)). length (take many (drop first l))) named_is, length-take-le many (drop first names) (omega (arith, length-drop first names, inside)))) in
    subst (λ (l : Slots). KeepsRun l at many result) view
    (subst (λ (r : List ℕ). KeepsRun (slots_with names bytes) at many r) (sym (is ∙ ap (λ n. flat_map (λ x. x) (take n (drop first lent))) many_is ∙ ap (λ (l : List (List ℕ)). flat_map (λ x. x) (take many (drop first l))) lent_is))
    (keeps_run names bytes first many at are inside each))

count_is : (names : List (Option ℕ)) (bytes : List (List ℕ)) (now : Slots) (n : ℕ) → slots_with names bytes ≡ now → n ≡ length names → n ≡ length now
count_is names bytes now n view long = long ∙ sym (length-slots names bytes) ∙ ap (λ (l : Slots). length l) view

-- a change of the slot of a sector
pub emptied : (names : List (Option ℕ)) (bytes : List (List ℕ)) (now : Slots) (n at : ℕ) → slots_with names bytes ≡ now → n ≡ length names → slots_with (set names (at % n) None) bytes ≡ with_slot now at None
emptied names bytes now n at view long =
    slots_emptied names bytes (at % n) ∙ ap (λ (l : Slots). set l (at % n) None) view ∙ ap (λ m. set now (at % m) None) (count_is names bytes now n view long)

pub kept_slot : (names : List (Option ℕ)) (bytes : List (List ℕ)) (now : Slots) (n at : ℕ) (value : List ℕ) → AreSlots names bytes → slots_with names bytes ≡ now → n ≡ length names → length value ≡ 512
    → IsKept now at value (slots_with (set names (at % n) (Some at)) (set bytes (at % n) value))
kept_slot names bytes now n at value are view long whole =
    let put = slot_is at value whole in (
      put.0,
      put.2,
      put.3,
      slots_set names bytes (at % n) (Some at) value are.0 ∙ ap (set (slots_with names bytes) (at % n)) put.1 ∙ ap (λ (l : Slots). set l (at % n) (Some put.0)) view
          ∙ ap (λ m. set now (at % m) (Some put.0)) (count_is names bytes now n view long),
    )

-- without a slot nothing changes
pub kept_none : (names : List (Option ℕ)) (bytes : List (List ℕ)) (now : Slots) (at : ℕ) (value : List ℕ) → slots_with names bytes ≡ now → length names ≡ 0 → length value ≡ 512 → IsKept now at value now
kept_none names bytes now at value view none whole =
    let put = slot_is at value whole in
    let long : length now ≡ 0 = sym (count_is names bytes now (length names) view refl) ∙ none in
    (put.0, put.2, put.3, sym (set_past now (at % length now) (Some put.0) (omega (arith, long))))

pub kept_holds : (old new : Slots) (at : ℕ) (value : List ℕ) → IsKept old at value new → 0 < length old → holds new at ≡ true
kept_holds old new at value (put, of, bytes, is) some =
    let place = at % length old in
    let there : slot_of new at ≡ Some put = ap (λ (l : Slots). slot_of l at) is ∙ ap (λ n. get_or (set old place (Some put)) (at % n) None) (length-set old place (Some put)) ∙ get_or-set_same old place (Some put) None (omega (arith, some)) in
    ap (λ (o : Option Put). is_of o at) there ∙ eq-eqb put.at at of

pub kept_others : (old new : Slots) (at : ℕ) (value : List ℕ) → IsKept old at value new → OthersStand at old new
kept_others old new at value (put, of, bytes, is) =
    let place = at % length old in (
      ap (λ (l : Slots). length l) is ∙ length-set old place (Some put),
      λ k apart. ap (λ (l : Slots). get_or l k None) is ∙ get_or-set_other old place k (Some put) None apart,
    )

-- the slot of a sector
place_is : (names : List (Option ℕ)) (bytes : List (List ℕ)) (now : Slots) (n at : ℕ) (name : Option ℕ) → slots_with names bytes ≡ now → n ≡ length names → 0 < n → name ≡ get_or names (at % n) name → slot_of now at ≡ slot_with name (get_or bytes (at % n) [])
place_is names bytes now n at name view long some read =
    ap (λ m. get_or now (at % m) None) (sym (count_is names bytes now n view long)) ∙ ap (λ (l : Slots). get_or l (at % n) None) (sym view) ∙ get_or-slots names bytes (at % n)
    ∙ ap (λ (o : Option ℕ). slot_with o (get_or bytes (at % n) [])) (get_or_default names (at % n) None name (omega (arith, long, some)) ∙ sym read)

pub found_at : (names : List (Option ℕ)) (bytes : List (List ℕ)) (now : Slots) (n at name : ℕ) (read : Option ℕ) (value : List ℕ) → AreSlots names bytes → slots_with names bytes ≡ now → n ≡ length names → 0 < n → read ≡ get_or names (at % n) read
    → read ≡ Some name → name ≡ at → value ≡ get_or bytes (at % n) value → (put : Put) × (slot_of now at ≡ Some put) × (put.at ≡ at) × (value ≡ put.bytes)
found_at names bytes now n at name read value are view long some there is of lent =
    let inside : at % n < length bytes = omega (arith, long, some, are.0) in
    let put = slot_is name (get_or bytes (at % n) []) (are.1 (at % n) inside) in (
      put.0,
      place_is names bytes now n at read view long some there ∙ ap (λ (o : Option ℕ). slot_with o (get_or bytes (at % n) [])) is ∙ put.1,
      put.2 ∙ of,
      lent ∙ get_or_default bytes (at % n) value [] inside ∙ sym put.3,
    )

pub not_found : (names : List (Option ℕ)) (bytes : List (List ℕ)) (now : Slots) (n at : ℕ) (read : Option ℕ) → AreSlots names bytes → slots_with names bytes ≡ now → n ≡ length names → 0 < n → read ≡ get_or names (at % n) read
    → ((name : ℕ) → read ≡ Some name → name ≡ at → ⊥) → holds now at ≡ false
not_found names bytes now n at read are view long some there not_of =
    ap (λ (o : Option Put). is_of o at) (place_is names bytes now n at read view long some there) ∙ never read not_of
  where
    never : (o : Option ℕ) → ((name : ℕ) → o ≡ Some name → name ≡ at → ⊥) → is_of (slot_with o (get_or bytes (at % n) [])) at ≡ false
    never None other = refl
    never (Some name) other =
        let put = slot_is name (get_or bytes (at % n) []) (are.1 (at % n) (omega (arith, long, some, are.0))) in
        ap (λ (o : Option Put). is_of o at) put.1 ∙ ne_eqb put.0.at at (λ e. other name refl (sym put.2 ∙ e))

-- the bytes of a slot that names a sector of the journal
pub reread_bytes : (plan : Plan) (name : Option ℕ) (at : ℕ) (old new : List ℕ) → name ≡ Some at → is_closed plan at ≡ true → length old ≡ 512 → length new ≡ 512 → IsReread plan (slot_with name old) (slot_with name new)
reread_bytes plan name at old new is own whole_old whole_new =
    let a = slot_is at old whole_old in
    let b = slot_is at new whole_new in
    subst (λ (o : Option ℕ). IsReread plan (slot_with o old) (slot_with o new)) (sym is)
    (subst (λ (o : Option Put). IsReread plan (slot_with (Some at) old) o) (sym b.1) (reread_now plan (slot_with (Some at) old) a.0 b.0 a.1 (ap (is_closed plan) a.2 ∙ own) (b.2 ∙ sym a.2)))

-- a pass over all slots, and one that ends at one of them
pub reread_through : (plan : Plan) (names : List (Option ℕ)) (old new : List (List ℕ)) → ((k : ℕ) → k < length names → IsReread plan (slot_with (get_or names k None) (get_or old k [])) (slot_with (get_or names k None) (get_or new k [])))
    → EachReread plan (slots_with names old) (slots_with names new)
reread_through plan names old new each = (
  length-slots names new ∙ sym (length-slots names old),
  λ k below. subst (λ (o : Option Put). IsReread plan o (get_or (slots_with names new) k None)) (sym (get_or-slots names old k))
      (subst (λ (o : Option Put). IsReread plan (slot_with (get_or names k None) (get_or old k [])) o) (sym (get_or-slots names new k)) (each k (omega (arith, below, length-slots names old)))),
)

pub reread_up_to : (plan : Plan) (names : List (Option ℕ)) (old bytes : List (List ℕ)) (i : ℕ) (now : List ℕ) → i < length names → length bytes ≡ length names
    → ((k : ℕ) → k < i → IsReread plan (slot_with (get_or names k None) (get_or old k [])) (slot_with (get_or names k None) (get_or bytes k []))) → ((k : ℕ) → i ≤ k → get_or bytes k [] ≡ get_or old k [])
    → IsReread plan (slot_with (get_or names i None) (get_or bytes i [])) (slot_with (get_or names i None) now) → EachReread plan (slots_with names old) (slots_with names (set bytes i now))
reread_up_to plan names old bytes i now inside long done left here = reread_through plan names old (set bytes i now) (λ k below. elim (cases_lt k i) [
  | inl under ↦ subst (λ (b : List ℕ). IsReread plan (slot_with (get_or names k None) (get_or old k [])) (slot_with (get_or names k None) b)) (sym (get_or-set_other bytes i k now [] (λ e. omega (arith, under, e)))) (done k under)
  | inr over ↦ elim (cases_eq k i) [
    | inl same ↦
        subst (λ j. IsReread plan (slot_with (get_or names j None) (get_or old j [])) (slot_with (get_or names j None) (get_or (set bytes i now) j []))) (sym same)
        (subst (λ (b : List ℕ). IsReread plan (slot_with (get_or names i None) (get_or old i [])) (slot_with (get_or names i None) b)) (sym (get_or-set_same bytes i now [] (omega (arith, inside, long))))
        (subst (λ (b : List ℕ). IsReread plan (slot_with (get_or names i None) b) (slot_with (get_or names i None) now)) (left i (omega arith)) here))
    | inr apart ↦
        subst (λ (b : List ℕ). IsReread plan (slot_with (get_or names k None) (get_or old k [])) (slot_with (get_or names k None) b)) (sym (get_or-set_other bytes i k now [] apart ∙ left k over)) (reread_same plan (slot_with (get_or names k None) (get_or old k [])))
  ]
])

pub read_through : (plan : Plan) (content : Content) (names : List (Option ℕ)) (bytes : List (List ℕ)) → ((k : ℕ) → k < length names → IsRead plan content (slot_with (get_or names k None) (get_or bytes k []))) → AreRead plan content (slots_with names bytes)
read_through plan content names bytes each k below = subst (λ (o : Option Put). IsRead plan content o) (sym (get_or-slots names bytes k)) (each k (omega (arith, below, length-slots names bytes)))

abbrev no_slot : Option Put
no_slot = None

-- a slot without a sector that an undo changes
undone_with : (all kept : List Put) (name : Option ℕ) (bytes : List ℕ) → slot_with (undone_name all kept name) bytes ≡ undone_slot all kept (slot_with name bytes)
undone_with all kept None bytes = refl
undone_with all kept (Some at) bytes = by_name (is_dropped all kept at) ∙ sym (by_slot (cases_eq (length bytes) 512))
  where
    by_name : (d : Bool) → slot_with (if d then None else Some at) bytes ≡ (if d then None else slot_with (Some at) bytes)
    by_name true = refl
    by_name false = refl

    none_both : (d : Bool) → no_slot ≡ (if d then no_slot else no_slot)
    none_both true = refl
    none_both false = refl

    by_slot : (s : (length bytes ≡ 512) ⊎ (length bytes ≢ 512)) → undone_slot all kept (sized_slot at bytes s) ≡ (if is_dropped all kept at then None else sized_slot at bytes s)
    by_slot (inl whole) = refl
    by_slot (inr other) = none_both (is_dropped all kept at)

pub becomes_undone : (all kept : List Put) (names new : List (Option ℕ)) (bytes : List (List ℕ)) (now : Slots) → slots_with names bytes ≡ now → length new ≡ length names → ((k : ℕ) → k < length names → get_or new k None ≡ undone_name all kept (get_or names k None))
    → EachBecomes (undone_slot all kept) now (slots_with new bytes)
becomes_undone all kept names new bytes now view long each = subst (λ (l : Slots). EachBecomes (undone_slot all kept) l (slots_with new bytes)) view (
  length-slots new bytes ∙ long ∙ sym (length-slots names bytes),
  λ k below. get_or-slots new bytes k ∙ ap (λ (o : Option ℕ). slot_with o (get_or bytes k [])) (each k (omega (arith, below, length-slots names bytes))) ∙ undone_with all kept (get_or names k None) (get_or bytes k [])
      ∙ ap (undone_slot all kept) (sym (get_or-slots names bytes k)),
)
