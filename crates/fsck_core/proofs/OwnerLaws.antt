-- Overflow records that go on behind each other.
use Rattle.std.proofs.Common.{◌≡◌, ◌<◌, ℕ, ◌+◌, Bool, true, false, not, ◌==◌, List, [], ◌∷◌, ◌++◌, length, get_or, drop, refl, sym, ◌∙◌, ap, subst, arith, if◌then◌else◌}
use Rattle.std.specs.Prelude.{Option, Some, None, MatchOption}
use Rattle.std.specs.List.{flat_map, range_with_len}
use Rattle.std.proofs.lemmas.Bool.{eqb-true, true≢false, eq-eqb}
use Rattle.std.proofs.lemmas.List.{at_drop_more, length-append}
use Rattle.std.proofs.lemmas.List.Concat.{flat_map-append}
use Rattle.hx_bytes.specs.declared.extents.Extent.{Extent}
use Rattle.fork_map.specs.Blocks.{blocks_of}
use Rattle.hfs_model.specs.Sorted.{kept}
use Rattle.hfs_volume.specs.Records.{Overflow}
use Rattle.hfs_volume.specs.Forks.{Owned, in_use, is_of, is_full, has_extents, extents_of, extents_id, overflow_in as overflow_of_fork, blocks_owned}
use Rattle.hfs_volume.specs.Blocks.{GoOn, GoesOn}
use Rattle.fsck_core.specs.Overflows.{overflow_in, overflows_in}
use Rattle.fsck_core.specs.Owners.{next_front, follow}
use Rattle.fsck_core.specs.declared.overflow.OverflowRow.{OverflowRow}
use Rattle.fsck_core.specs.declared.follow.Front.{Front}

pub follow_none : (id kind : ℕ) (rows : List OverflowRow) → follow id kind None rows ≡ None
follow_none id kind [] = refl
follow_none id kind (row ∷ rows) = follow_none id kind rows

-- one row more
pub follow_more : (id kind i : ℕ) (rows : List OverflowRow) (d : OverflowRow) (front : Front) (o : Option Front) → i < length rows → o ≡ next_front id kind front (get_or rows i d)
    → follow id kind (Some front) (drop i rows) ≡ follow id kind o (drop (i + 1) rows)
follow_more id kind i rows d front o inside is =
    at_drop_more (follow id kind (Some front)) rows i d inside ∙ ap (λ (f : Option Front). follow id kind f (drop (i + 1) rows)) (sym is)

match_as : {X N M : Type 0} (P Q : X → Type 0) (o : Option X) → MatchOption o N P → (N → M) → ((x : X) → P x → Q x) → MatchOption o M Q
match_as P Q None is none some = none is
match_as P Q (Some x) is none some = some x is

-- the records of a fork
abbrev pub mine : ℕ → ℕ → List OverflowRow → List Overflow
mine id kind rows = kept (is_of id kind) (overflows_in rows)

-- how many blocks records have
abbrev pub many : List Overflow → ℕ
many more = length (flat_map (λ (m : Overflow). blocks_of m.extents) more)

-- rows are followed to their end where they go on, and only there
pub goes : (id kind : ℕ) (front : Front) (rows : List OverflowRow)
    → MatchOption (follow id kind (Some front) rows) (¬ GoOn front.place front.full (mine id kind rows)) (λ last. GoOn front.place front.full (mine id kind rows) × (last.place ≡ front.place + many (mine id kind rows)))
goes id kind front [] = (tt, omega arith)
goes id kind front (row ∷ rows) = at (goes id kind front rows) (goes id kind next rows) (is_of id kind more) (row.start == front.place) front.full (has_extents row.extents.extents) refl refl refl
  where
    more : Overflow
    more = overflow_in row

    next : Front
    next = record { place = row.start + length (blocks_of row.extents.extents); full = is_full row.extents.extents }

    all : Bool → List Overflow
    all b = (if b then more ∷ [] else []) ++ mine id kind rows

    Told : Option Front → Bool → Type 0
    Told o b = MatchOption o (¬ GoOn front.place front.full (all b)) (λ last. GoOn front.place front.full (all b) × (last.place ≡ front.place + many (all b)))

    Goal : Bool → Bool → Bool → Bool → Type 0
    Goal b c d e = Told (follow id kind (if not b then Some front else if not c then None else if not d then None else if not e then None else Some next) rows) b

    Onward : Front → Type 0
    Onward f = MatchOption (follow id kind (Some f) rows) (¬ GoOn f.place f.full (mine id kind rows)) (λ last. GoOn f.place f.full (mine id kind rows) × (last.place ≡ f.place + many (mine id kind rows)))

    stops : ¬ GoOn front.place front.full (all true) → Told (follow id kind None rows) true
    stops not_on = subst (λ (o : Option Front). Told o true) (sym (follow_none id kind rows)) not_on

    at : Onward front → Onward next → (b c d e : Bool) → (row.start == front.place) ≡ c → front.full ≡ d → has_extents row.extents.extents ≡ e → Goal b c d e
    at here onward false c d e same full some = here
    at here onward true false d e same full some = stops (λ (go : GoOn front.place front.full (all true)). true≢false (sym (eq-eqb row.start front.place go.0) ∙ same))
    at here onward true true false e same full some = stops (λ (go : GoOn front.place front.full (all true)). true≢false (sym go.1 ∙ full))
    at here onward true true true false same full some = stops (λ (go : GoOn front.place front.full (all true)). true≢false (sym go.3 ∙ some))
    at here onward true true true true same full some =
        let place : row.start ≡ front.place = eqb-true row.start front.place same in
        match_as (λ last. GoOn next.place next.full (mine id kind rows) × (last.place ≡ next.place + many (mine id kind rows))) (λ last. GoOn front.place front.full (all true) × (last.place ≡ front.place + many (all true)))
        (follow id kind (Some next) rows) onward
        (λ not_on go. not_on (subst (λ n. GoOn (n + length (blocks_of row.extents.extents)) (is_full row.extents.extents) (mine id kind rows)) (sym place) go.2))
        (λ last on. (
          (place, full, subst (λ n. GoOn (n + length (blocks_of row.extents.extents)) (is_full row.extents.extents) (mine id kind rows)) place on.0, some),
          omega (arith, on.1, place, length-append (blocks_of row.extents.extents) (flat_map (λ (m : Overflow). blocks_of m.extents) (mine id kind rows))),
        ))

-- unused extents have no blocks
pub used_length : (es : List Extent) → length (blocks_of (in_use es)) ≡ length (blocks_of es)
used_length [] = refl
used_length (e ∷ es) = at (used_length es) (e.count == 0) refl
  where
    at : length (blocks_of (in_use es)) ≡ length (blocks_of es) → (b : Bool) → (e.count == 0) ≡ b → length (blocks_of ((if not b then e ∷ [] else []) ++ in_use es)) ≡ length (range_with_len e.start e.count ++ blocks_of es)
    at rest false is = length-append (range_with_len e.start e.count) (blocks_of (in_use es)) ∙ ap (λ n. length (range_with_len e.start e.count) + n) rest ∙ sym (length-append (range_with_len e.start e.count) (blocks_of es))
    at rest true is = rest ∙ sym (ap (λ n. length (range_with_len e.start n ++ blocks_of es)) (eqb-true e.count 0 is))

used_all : (ms : List Overflow) → length (blocks_of (flat_map (λ (m : Overflow). in_use m.extents) ms)) ≡ many ms
used_all [] = refl
used_all (m ∷ ms) =
    ap length (flat_map-append (λ (e : Extent). range_with_len e.start e.count) (in_use m.extents) (flat_map (λ (x : Overflow). in_use x.extents) ms))
    ∙ length-append (blocks_of (in_use m.extents)) (blocks_of (flat_map (λ (x : Overflow). in_use x.extents) ms))
    ∙ (λ i. used_length m.extents i + used_all ms i)
    ∙ sym (length-append (blocks_of m.extents) (flat_map (λ (x : Overflow). blocks_of x.extents) ms))

-- the blocks of a fork are those of its record and of its overflow records
pub owned_length : (overflow : List Overflow) (owned : Owned) → length (blocks_owned overflow owned) ≡ length (blocks_of owned.fork.extents.extents) + many (overflow_of_fork overflow owned.id owned.kind)
unfolding extents_of
owned_length overflow owned =
    ap length (flat_map-append (λ (e : Extent). range_with_len e.start e.count) (in_use owned.fork.extents.extents) (flat_map (λ (x : Overflow). in_use x.extents) (overflow_of_fork overflow owned.id owned.kind)))
    ∙ length-append (blocks_of (in_use owned.fork.extents.extents)) (blocks_of (flat_map (λ (x : Overflow). in_use x.extents) (overflow_of_fork overflow owned.id owned.kind)))
    ∙ (λ i. used_length owned.fork.extents.extents i + used_all (overflow_of_fork overflow owned.id owned.kind) i)

-- the extents overflow file has no overflow records, so that its fork goes on
pub own_goes_on : (overflow : List Overflow) (owned : Owned) (place : ℕ) → (owned.id == extents_id) ≡ true → place ≡ length (blocks_of owned.fork.extents.extents) → GoesOn overflow owned × (place ≡ length (blocks_owned overflow owned))
own_goes_on overflow owned place is place_is =
    let none : overflow_of_fork overflow owned.id owned.kind ≡ [] = ap (λ b. if b then [] else kept (is_of owned.id owned.kind) overflow) is in (
      subst (λ (l : List Overflow). GoOn (length (blocks_of owned.fork.extents.extents)) (is_full owned.fork.extents.extents) l) (sym none) tt,
      (let whole = owned_length overflow owned in let few : many (overflow_of_fork overflow owned.id owned.kind) ≡ 0 = ap many none in omega (arith, place_is, whole, few)),
    )

-- a fork's rows go on where they are followed to their end
pub fork_goes : (rows : List OverflowRow) (owned : Owned) (front : Front) (o : Option Front) → (owned.id == extents_id) ≡ false → front.place ≡ length (blocks_of owned.fork.extents.extents) → front.full ≡ is_full owned.fork.extents.extents
    → o ≡ follow owned.id owned.kind (Some front) rows → MatchOption o (¬ GoesOn (overflows_in rows) owned) (λ last. GoesOn (overflows_in rows) owned × (last.place ≡ length (blocks_owned (overflows_in rows) owned)))
fork_goes rows owned front o is place full result =
    let all : List Overflow = overflow_of_fork (overflows_in rows) owned.id owned.kind in
    let same : mine owned.id owned.kind rows ≡ all = sym (ap (λ b. if b then [] else kept (is_of owned.id owned.kind) (overflows_in rows)) is) in
    subst (λ (p : Option Front). MatchOption p (¬ GoesOn (overflows_in rows) owned) (λ last. GoesOn (overflows_in rows) owned × (last.place ≡ length (blocks_owned (overflows_in rows) owned)))) (sym result)
    (match_as (λ last. GoOn front.place front.full (mine owned.id owned.kind rows) × (last.place ≡ front.place + many (mine owned.id owned.kind rows)))
    (λ last. GoesOn (overflows_in rows) owned × (last.place ≡ length (blocks_owned (overflows_in rows) owned)))
    (follow owned.id owned.kind (Some front) rows) (goes owned.id owned.kind front rows)
    (λ not_on go. not_on (subst (λ b. GoOn front.place b (mine owned.id owned.kind rows)) (sym full) (subst (λ n. GoOn n (is_full owned.fork.extents.extents) (mine owned.id owned.kind rows)) (sym place)
    (subst (λ (l : List Overflow). GoOn (length (blocks_of owned.fork.extents.extents)) (is_full owned.fork.extents.extents) l) (sym same) go))))
    (λ last on. (
      subst (λ (l : List Overflow). GoOn (length (blocks_of owned.fork.extents.extents)) (is_full owned.fork.extents.extents) l) same (subst (λ n. GoOn n (is_full owned.fork.extents.extents) (mine owned.id owned.kind rows)) place (subst (λ b. GoOn front.place b (mine owned.id owned.kind rows)) full on.0)),
      on.1 ∙ (λ i. place i + many (same i)) ∙ sym (owned_length (overflows_in rows) owned),
    )))

pub fork_stops : (rows : List OverflowRow) (owned : Owned) (front : Front) (o : Option Front) → (owned.id == extents_id) ≡ false → front.place ≡ length (blocks_of owned.fork.extents.extents) → front.full ≡ is_full owned.fork.extents.extents
    → o ≡ follow owned.id owned.kind (Some front) rows → o ≡ None → ¬ GoesOn (overflows_in rows) owned
fork_stops rows owned front o is place full result none =
    subst (λ (p : Option Front). MatchOption p (¬ GoesOn (overflows_in rows) owned) (λ last. GoesOn (overflows_in rows) owned × (last.place ≡ length (blocks_owned (overflows_in rows) owned)))) none
    (fork_goes rows owned front o is place full result)

pub fork_counts : (rows : List OverflowRow) (owned : Owned) (front : Front) (o : Option Front) (last : Front) → (owned.id == extents_id) ≡ false → front.place ≡ length (blocks_of owned.fork.extents.extents) → front.full ≡ is_full owned.fork.extents.extents
    → o ≡ follow owned.id owned.kind (Some front) rows → o ≡ Some last → GoesOn (overflows_in rows) owned × (last.place ≡ length (blocks_owned (overflows_in rows) owned))
fork_counts rows owned front o last is place full result some =
    subst (λ (p : Option Front). MatchOption p (¬ GoesOn (overflows_in rows) owned) (λ end. GoesOn (overflows_in rows) owned × (end.place ≡ length (blocks_owned (overflows_in rows) owned)))) some
    (fork_goes rows owned front o is place full result)
