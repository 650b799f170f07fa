-- A barrier settles the sectors that were written since the last.
use Rattle.std.proofs.Common.{◌≡◌, ◌≢◌, ◌⊎◌, ◌<◌, ℕ, List, [], ◌∷◌, ◌++◌, inl, inr, ⊎_elim, length, get_or, set, drop, refl, sym, ◌∙◌, ap, subst, arith, length-append, length-set, get_or-set_same, get_or-set_other}
use Rattle.std.proofs.lemmas.Bool.{cases_eq, cases_lt}
use Rattle.std.proofs.lemmas.List.{drop-append-le, ext_get_or, get_or-map, get_or_append_left, get_or_push, length-map}
use Rattle.sector_disk.specs.Lists.{Content, last}
use Rattle.sector_disk.specs.Disk.{Candidates, candidates_of, content_of, only, with_candidate}
use Rattle.mem_disk.specs.Events.{IsFull}
use Rattle.mem_disk.specs.Settling.{ArePending, IsUnwritten, IsWriteOf, settled_by}
use Rattle.mem_disk.specs.declared.event.Event.{Event}
use Rattle.mem_disk.specs.declared.event.Event.TheVariants.{Write, Barrier, Told}

-- this sector keeps its last candidate alone
abbrev pub HasSettled : Candidates → Candidates → ℕ → Type 0
HasSettled old new at = candidates_of new at ≡ last (candidates_of old at) ∷ []

-- a sector is settled, or none of these events wrote it and it is as it was
abbrev pub IsDone : Candidates → Candidates → List Event → ℕ → Type 0
IsDone old new events at = HasSettled old new at ⊎ ((candidates_of new at ≡ candidates_of old at) × IsUnwritten at events)

-- the sectors that these events wrote are settled
pub record Settles (old new : Candidates) (events : List Event) : Type 0 where
  pub size : length new ≡ length old
  pub each : (at : ℕ) → at < length old → IsDone old new events at

unwritten_none : (at : ℕ) → IsUnwritten at []
unwritten_none at k d inside = absurd (omega (arith, inside))

unwritten_more : (at : ℕ) (events : List Event) (event : Event) → IsUnwritten at events → ¬ IsWriteOf at event → IsUnwritten at (events ++ event ∷ [])
unwritten_more at events event before not k d inside = elim (cases_lt k (length events)) [
  | inl earlier ↦ subst (λ (e : Event). ¬ IsWriteOf at e) (sym (get_or_append_left events (event ∷ []) d k earlier)) (before k d earlier)
  | inr at_end ↦
      let here : k ≡ length events = omega (arith, inside, at_end, length-append events (event ∷ [])) in
      subst (λ (e : Event). ¬ IsWriteOf at e) (sym (ap (λ n. get_or (events ++ event ∷ []) n d) here ∙ get_or_push events event d (length events) refl)) not
]

unwritten_before : (at : ℕ) (events : List Event) (event : Event) → IsUnwritten at (events ++ event ∷ []) → IsUnwritten at events
unwritten_before at events event none k d inside = subst (λ (e : Event). ¬ IsWriteOf at e) (get_or_append_left events (event ∷ []) d k inside) (none k d (omega (arith, inside, length-append events (event ∷ []))))

unwritten_last : (at : ℕ) (events : List Event) (event : Event) → IsUnwritten at (events ++ event ∷ []) → ¬ IsWriteOf at event
unwritten_last at events event none =
    subst (λ (e : Event). ¬ IsWriteOf at e) (get_or_push events event event (length events) refl) (none (length events) event (omega (arith, length-append events (event ∷ []))))

pub settles_none : (old : Candidates) → Settles old old []
settles_none old = record { size = refl; each = λ at inside. inr (refl, unwritten_none at) }

pub settles_full : (old new : Candidates) (events : List Event) → IsFull old → Settles old new events → IsFull new
settles_full old new events full so_far at inside =
    ⊎_elim (λ is. omega (arith, ap length is)) (λ same. omega (arith, ap length same.0, full at (omega (arith, inside, so_far.size)))) (so_far.each at (omega (arith, inside, so_far.size)))

-- one event more
pub settles_one : (old new : Candidates) (events : List Event) (event : Event) → Settles old new events → Settles old (settled_by new event) (events ++ event ∷ [])
settles_one old new events (Write written) so_far =
    let place = written.value.at in
    record {
      size = length-set new place (last (candidates_of new place) ∷ []) ∙ so_far.size;
      each = λ at inside. elim (cases_eq at place) [
        | inl here ↦
            let one : candidates_of (settled_by new (Write written)) at ≡ last (candidates_of new at) ∷ [] =
            ap (λ n. get_or (set new place (last (candidates_of new place) ∷ [])) n []) here
            ∙ get_or-set_same new place (last (candidates_of new place) ∷ []) [] (omega (arith, sym here, inside, so_far.size)) ∙ ap (λ n. last (candidates_of new n) ∷ []) (sym here) in
            inl (one ∙ ap (λ (v : List ℕ). v ∷ []) (⊎_elim (λ is. ap last is) (λ same. ap last same.0) (so_far.each at inside)))
        | inr other ↦
            let same : candidates_of (settled_by new (Write written)) at ≡ candidates_of new at = get_or-set_other new place at (last (candidates_of new place) ∷ []) [] other in
            ⊎_elim (λ is. inl (same ∙ is)) (λ was. inr (same ∙ was.0, unwritten_more at events (Write written) was.1 (λ is. other (sym is)))) (so_far.each at inside)
      ];
    }
settles_one old new events Barrier so_far = record {
  size = so_far.size;
  each = λ at inside. ⊎_elim (λ is. inl is) (λ was. inr (was.0, unwritten_more at events Barrier was.1 (λ is. is))) (so_far.each at inside);
}
settles_one old new events (Told byte) so_far = record {
  size = so_far.size;
  each = λ at inside. ⊎_elim (λ is. inl is) (λ was. inr (was.0, unwritten_more at events (Told byte) was.1 (λ is. is))) (so_far.each at inside);
}

one_is : (list : List (List ℕ)) → length list ≡ 1 → list ≡ last list ∷ []
one_is [] long = absurd (omega (arith, long))
one_is (v ∷ []) long = refl
one_is (v ∷ w ∷ list) long = absurd (omega (arith, long))

-- all of them
pub settles_all : (old new : Candidates) (events : List Event) → Settles old new events → ArePending 0 events old → new ≡ only (content_of old)
settles_all old new events settles pending =
    let long : length (only (content_of old)) ≡ length old = length-map (content_of old) (λ (v : List ℕ). v ∷ []) ∙ length-map old last in
    ext_get_or [] new (only (content_of old)) (settles.size ∙ sym long)
    (λ at inside.
    let in_old : at < length old = omega (arith, inside, settles.size) in
    let wanted : candidates_of (only (content_of old)) at ≡ last (candidates_of old at) ∷ [] =
    get_or-map (λ (v : List ℕ). v ∷ []) (content_of old) at [] [] (omega (arith, in_old, length-map old last)) ∙ ap (λ (v : List ℕ). v ∷ []) (get_or-map last old at [] [] in_old) in
    ⊎_elim (λ is. is) (λ same. same.0 ∙ one_is (candidates_of old at) (pending.one at in_old same.1)) (settles.each at in_old) ∙ sym wanted)

-- an event that changes no sector
pub pending_told : (settled : ℕ) (events : List Event) (event : Event) (events' : List Event) (table : Candidates) → events' ≡ events ++ event ∷ [] → ArePending settled events table → ArePending settled events' table
pending_told settled events event events' table more pending = subst (λ (l : List Event). ArePending settled l table) (sym more) (record {
  some = omega (arith, pending.some, length-append events (event ∷ []));
  one = λ at inside none. pending.one at inside (unwritten_before at (drop settled events) event (subst (IsUnwritten at) (drop-append-le settled events (event ∷ []) pending.some) none));
})

-- a write
pub pending_written : (settled : ℕ) (events : List Event) (event : Event) (events' : List Event) (table table' : Candidates) (place : ℕ) (value : List ℕ) → events' ≡ events ++ event ∷ [] → table' ≡ with_candidate table place value → IsWriteOf place event
    → ArePending settled events table → ArePending settled events' table'
pending_written settled events event events' table table' place value more adds is pending =
    subst (λ (l : List Event). ArePending settled l table') (sym more) (subst (ArePending settled (events ++ event ∷ [])) (sym adds) (record {
      some = omega (arith, pending.some, length-append events (event ∷ []));
      one = λ at inside none.
          let both = subst (IsUnwritten at) (drop-append-le settled events (event ∷ []) pending.some) none in
          let other : at ≢ place = λ same. unwritten_last at (drop settled events) event both (subst (λ n. IsWriteOf n event) (sym same) is) in
          ap length (get_or-set_other table place at (candidates_of table place ++ value ∷ []) [] other)
          ∙ pending.one at (omega (arith, inside, length-set table place (candidates_of table place ++ value ∷ []))) (unwritten_before at (drop settled events) event both);
    }))

-- a barrier
pub pending_settled : (events : List Event) (count : ℕ) (content : Content) (table : Candidates) → count ≡ length events → table ≡ only content → ArePending count events table
pending_settled events count content table all is = record {
  some = omega (arith, all);
  one = λ at inside none.
      let in_content : at < length content = omega (arith, inside, ap length is, length-map content (λ (v : List ℕ). v ∷ [])) in
      ap (λ (d : Candidates). length (candidates_of d at)) is ∙ ap length (get_or-map (λ (v : List ℕ). v ∷ []) content at [] [] in_content);
}

-- what is pending, as a slice of the events
pub pending_rest : (settled : ℕ) (events rest : List Event) (table table' : Candidates) → rest ≡ drop settled events → table' ≡ table → ArePending settled events table → ArePending 0 rest table'
pending_rest settled events rest table table' is same pending = subst (ArePending 0 rest) (sym same) (record { some = omega arith; one = λ at inside none. pending.one at inside (subst (IsUnwritten at) is none) })

-- nothing was noted
pub pending_same : (settled : ℕ) (events events' : List Event) (table table' : Candidates) → events' ≡ events → table' ≡ table → ArePending settled events table → ArePending settled events' table'
pending_same settled events events' table table' e t pending = subst (λ (l : List Event). ArePending settled l table') (sym e) (subst (ArePending settled events) (sym t) pending)
