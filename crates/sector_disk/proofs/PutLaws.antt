-- Sectors of a list that are put one after another.
use Rattle.std.proofs.Common.{◌≡◌, ◌≢◌, ◌⊎◌, ℕ, ◌+◌, ◌-◌, ◌≤◌, ◌<◌, Bool, true, false, not, ◌==◌, ◌||◌, cond, IsTrue, List, [], ◌∷◌, ◌++◌, length, inl, inr, refl, sym, ◌∙◌, ap, subst, arith, ⊎_elim, append_assoc}
use Rattle.std.specs.List.{Contains}
use Rattle.std.proofs.lemmas.Bool.{cases_eq, cases_Bool, eqb-true, eq-eqb}
use Rattle.std.proofs.lemmas.List.{get_or-set_same, get_or-set_other, length-set}
use Rattle.std.proofs.lemmas.List.Elements.{Contains-append_left, Contains-push, Contains-push_cases}
use Rattle.std.proofs.lemmas.List.Sums.{sum_by-append, sum_by-cons}
use Rattle.sector_disk.specs.Lists.{Content, sector}
use Rattle.sector_disk.specs.Clock.{TimePasses}
use Rattle.sector_disk.specs.Space.{Space, SameSpace, TakesRoom, Puts, LeavesDurable}
use Rattle.sector_disk.specs.Putting.{unput, PutsThese, TakesRoomOf}
use Rattle.sector_disk.proofs.Passing.{none_passes, both_pass}
use Rattle.sector_disk.proofs.SpaceLaws.{space_none, space_both, iff_none, iff_both, leaves_as_before}

no_none : (s : ℕ) → Contains [] s → ⊥
no_none s c = absurd (omega (arith, c.1))

-- ---- room
pub unput-append : (put : ℕ → Bool) (xs ys : List ℕ) → unput put (xs ++ ys) ≡ unput put xs + unput put ys
unput-append put xs ys = sum_by-append (λ (s : ℕ). cond (not (put s)) 1 0) xs ys

pub unput-cons : (put : ℕ → Bool) (at : ℕ) (xs : List ℕ) → unput put (at ∷ xs) ≡ cond (not (put at)) 1 0 + unput put xs
unput-cons put at xs = sum_by-cons (λ (s : ℕ). cond (not (put s)) 1 0) at xs

fewer_one : (p m : Bool) → (IsTrue p → IsTrue m) → ◌≤◌ (cond (not m) 1 0) (cond (not p) 1 0)
fewer_one true true grows = omega arith
fewer_one true false grows = absurd (let no : false ≡ true = grows refl in cc no)
fewer_one false true grows = omega arith
fewer_one false false grows = omega arith

pub fewer_unput : (put more : ℕ → Bool) (xs : List ℕ) → ((s : ℕ) → IsTrue (put s) → IsTrue (more s)) → unput more xs ≤ unput put xs
fewer_unput put more [] grows = omega arith
fewer_unput put more (s ∷ xs) grows = omega (arith, fewer_unput put more xs grows, fewer_one (put s) (more s) (grows s), unput-cons put s xs, unput-cons more s xs)

or_left : (a b : Bool) → IsTrue (a || b) → IsTrue a ⊎ IsTrue b
or_left true b t = inl refl
or_left false b t = inr t

or_right : (a b : Bool) → IsTrue b → IsTrue (a || b)
or_right true b t = refl
or_right false b t = t

or_first : (a b : Bool) → IsTrue a → IsTrue (a || b)
or_first a b t = ap (λ x. x || b) t

not_so : (b : Bool) → (IsTrue b → ⊥) → b ≡ false
not_so true h = absurd (h refl)
not_so false h = refl

-- there is room for the next one
pub has_room : (now : Space) (at : ℕ) (rest : List ℕ) → unput now.put (at ∷ rest) ≤ now.spare → (0 < now.spare) ⊎ IsTrue (now.put at)
has_room now at rest left = elim (cases_Bool (now.put at)) [
  | inl so ↦ inr so
  | inr none ↦ let one : unput now.put (at ∷ rest) ≡ 1 + unput now.put rest = unput-cons now.put at rest ∙ rw none refl in inl (omega (arith, one, left))
]

-- and then for those behind it
left_more : (at : ℕ) (rest : List ℕ) (now new : Space) → TakesRoom now at new → unput now.put (at ∷ rest) ≤ now.spare → unput new.put rest ≤ new.spare
left_more at rest now new room left =
    let fewer = fewer_unput now.put new.put rest (λ s t. room.put s ∙ or_right (s == at) (now.put s) t) in
    elim (cases_Bool (now.put at)) [
      | inl so ↦
          let s : new.spare ≡ now.spare = room.spare ∙ rw so refl in
          let one : unput now.put (at ∷ rest) ≡ unput now.put rest = unput-cons now.put at rest ∙ rw so (omega arith) in
          omega (arith, fewer, s, one, left)
      | inr none ↦
          let s : new.spare ≡ now.spare - 1 = room.spare ∙ rw none refl in
          let one : unput now.put (at ∷ rest) ≡ 1 + unput now.put rest = unput-cons now.put at rest ∙ rw none refl in
          omega (arith, fewer, s, one, left)
    ]

-- one sector more counts as put
room_more : (xs : List ℕ) (at : ℕ) (old now new : Space) → TakesRoomOf (λ s. Contains xs s) (unput old.put xs) old now → TakesRoom now at new → TakesRoomOf (λ s. Contains (xs ++ at ∷ []) s) (unput old.put (xs ++ at ∷ [])) old new
room_more xs at old now new was room =
    let counts : unput old.put (xs ++ at ∷ []) ≡ unput old.put xs + (cond (not (old.put at)) 1 0 + 0) = unput-append old.put xs (at ∷ []) ∙ ap (λ n. unput old.put xs + n) (unput-cons old.put at []) in
    let grows : (s : ℕ) → IsTrue (now.put s) → IsTrue (new.put s) = λ s t. room.put s ∙ or_right (s == at) (now.put s) t in
    let parts : (new.spare ≤ now.spare) × (old.spare ≤ new.spare + unput old.put (xs ++ at ∷ [])) = elim (cases_Bool (now.put at)) [
      | inl so ↦ let s : new.spare ≡ now.spare = room.spare ∙ rw so refl in (omega (arith, s), omega (arith, was.spare, s, counts))
      | inr none ↦
          let wasnt : old.put at ≡ false = not_so (old.put at) (λ o. let no : false ≡ true = sym none ∙ (was.put at).1 (inl o) in cc no) in
          let s : new.spare ≡ now.spare - 1 = room.spare ∙ rw none refl in
          let one_more : unput old.put (xs ++ at ∷ []) ≡ unput old.put xs + 1 = counts ∙ rw wasnt (omega arith) in
          (omega (arith, s), omega (arith, was.spare, s, one_more))
    ] in
    record {
      put = λ s. (
        λ t. ⊎_elim (λ e. inr (subst (λ k. Contains (xs ++ at ∷ []) k) (sym (eqb-true s at e)) (Contains-push xs at))) (λ p. ⊎_elim (λ o. inl o) (λ c. inr (Contains-append_left xs (at ∷ []) s c)) ((was.put s).0 p)) (or_left (s == at) (now.put s) (sym (room.put s) ∙ t)),
        λ e. ⊎_elim (λ o. grows s ((was.put s).1 (inl o)))
            (λ c. ⊎_elim (λ d. grows s ((was.put s).1 (inr d))) (λ same. room.put s ∙ or_first (s == at) (now.put s) (eq-eqb s at (sym same))) (Contains-push_cases xs at s c)) e,
      );
      spare = parts.1;
      no_more = omega (arith, parts.0, was.no_more);
    }

-- ---- sectors
pub put_other : (now new : Space) (at : ℕ) (value : List ℕ) (s : ℕ) → Puts now at value new → s ≢ at → sector new.content s ≡ sector now.content s
put_other now new at value s puts other = ap (λ (c : Content). sector c s) puts.content ∙ get_or-set_other now.content at s value [] other

put_there : (now new : Space) (at : ℕ) (value : List ℕ) → Puts now at value new → at < length now.content → sector new.content at ≡ value
put_there now new at value puts inside = ap (λ (c : Content). sector c at) puts.content ∙ get_or-set_same now.content at value [] inside

puts_more : (xs : List ℕ) (at : ℕ) (value : List ℕ) (old now new : Space) → PutsThese (λ s. Contains xs s) old now → Puts now at value new → PutsThese (λ s. Contains (xs ++ at ∷ []) s) old new
puts_more xs at value old now new was puts = record {
  content = record {
    size = ap (λ (c : Content). length c) puts.content ∙ length-set now.content at value ∙ was.content.size;
    each = λ s. ⊎_elim
        (λ (e : s ≡ at). inr (subst (λ k. Contains (xs ++ at ∷ []) k) (sym e) (Contains-push xs at)))
        (λ (other : s ≢ at). ⊎_elim (λ e. inl (put_other now new at value s puts other ∙ e)) (λ c. inr (Contains-append_left xs (at ∷ []) s c)) (was.content.each s))
        (cases_eq s at);
  };
  durable = puts.durable ∙ was.durable;
  spilled = λ s. iff_both (old.spilled s) (now.spilled s) (new.spilled s) (was.spilled s) (puts.spilled s);
  live = λ s. (
    λ l. ⊎_elim (λ m. ⊎_elim (λ o. inl o) (λ c. inr (Contains-append_left xs (at ∷ []) s c)) ((was.live s).0 m)) (λ (e : s ≡ at). inr (subst (λ k. Contains (xs ++ at ∷ []) k) (sym e) (Contains-push xs at))) ((puts.live s).0 l),
    λ e. ⊎_elim
        (λ o. (puts.live s).1 (inl ((was.live s).1 (inl o))))
        (λ c. ⊎_elim (λ d. (puts.live s).1 (inl ((was.live s).1 (inr d)))) (λ same. (puts.live s).1 (inr (sym same))) (Contains-push_cases xs at s c))
        e,
  );
  closed = λ s. iff_both (old.closed s) (now.closed s) (new.closed s) (was.closed s) (puts.closed s);
}

-- ---- the list so far
-- of a list, those before `left` were put
pub record PutSoFar (all left : List ℕ) (belongs : ℕ → List ℕ → Type 0) (old now : Space) : Type 0 where
  pub done : List ℕ
  pub parts : all ≡ done ++ left
  pub puts : IsTrue old.tells → PutsThese (λ s. Contains done s) old now
  pub bytes : IsTrue old.tells → (at : ℕ) → Contains done at → belongs at (sector now.content at)
  pub time : IsTrue old.tells → TimePasses old.clock now.clock (LeavesDurable now)
  pub room : TakesRoomOf (λ s. Contains done s) (unput old.put done) old now
  pub left_room : unput now.put left ≤ now.spare
  pub same : SameSpace old now
  pub faults : now.faults ≡ old.faults

pub none_so_far : (all : List ℕ) (belongs : ℕ → List ℕ → Type 0) (old : Space) → unput old.put all ≤ old.spare → PutSoFar all all belongs old old
none_so_far all belongs old room = record {
  done = [];
  parts = refl;
  puts = λ tells. record {
    content = record { size = refl; each = λ at. inl refl };
    durable = refl;
    spilled = λ s. iff_none (old.spilled s);
    live = λ s. (λ l. inl l, λ e. ⊎_elim (λ l. l) (λ c. absurd (no_none s c)) e);
    closed = λ s. iff_none (old.closed s);
  };
  bytes = λ tells at c. absurd (no_none at c);
  time = λ tells. none_passes old.clock (LeavesDurable old);
  room = record { put = λ s. (λ t. inl t, λ e. ⊎_elim (λ t. t) (λ c. absurd (no_none s c)) e); spare = omega arith; no_more = omega arith };
  left_room = room;
  same = space_none old;
  faults = refl;
}

pub more_so_far : (all left rest : List ℕ) (at : ℕ) (value : List ℕ) (belongs : ℕ → List ℕ → Type 0) (old now new : Space) → PutSoFar all left belongs old now → left ≡ at ∷ rest → belongs at value
    → (IsTrue now.tells → at < length now.content) → (IsTrue now.tells → Puts now at value new) → (IsTrue now.tells → TimePasses now.clock new.clock (LeavesDurable new))
    → TakesRoom now at new → SameSpace now new → new.faults ≡ now.faults → PutSoFar all rest belongs old new
more_so_far all left rest at value belongs old now new s is right inside puts time room same faults =
    let told : IsTrue old.tells → IsTrue now.tells = λ tells. s.same.tells ∙ tells in
    let has : unput now.put (at ∷ rest) ≤ now.spare = subst (λ (l : List ℕ). unput now.put l ≤ now.spare) is s.left_room in
    record {
      done = s.done ++ at ∷ [];
      parts = s.parts ∙ ap (λ (l : List ℕ). s.done ++ l) is ∙ sym (append_assoc s.done (at ∷ []) rest);
      puts = λ tells. puts_more s.done at value old now new (s.puts tells) (puts (told tells));
      bytes = λ tells k c. ⊎_elim
          (λ (e : k ≡ at). subst (λ j. belongs j (sector new.content j)) (sym e) (subst (λ (b : List ℕ). belongs at b) (sym (put_there now new at value (puts (told tells)) (inside (told tells)))) right))
          (λ (other : k ≢ at). subst (λ (b : List ℕ). belongs k b) (sym (put_other now new at value k (puts (told tells)) other))
          (⊎_elim (λ d. s.bytes tells k d) (λ e. absurd (other (sym e))) (Contains-push_cases s.done at k c)))
          (cases_eq k at);
      time = λ tells. let put = puts (told tells) in
          both_pass old.clock now.clock new.clock (LeavesDurable now) (LeavesDurable new) (LeavesDurable new) (s.time tells) (time (told tells))
          (λ image bytes l. leaves_as_before now new image bytes put.durable put.spilled put.closed same.told l) (λ image bytes l. l);
      room = room_more s.done at old now new s.room room;
      left_room = left_more at rest now new room has;
      same = space_both old now new s.same same;
      faults = faults ∙ s.faults;
    }

-- a sector that is still to come is one of the list
pub still_to_come : (all left rest : List ℕ) (at : ℕ) (belongs : ℕ → List ℕ → Type 0) (old now : Space) → PutSoFar all left belongs old now → left ≡ at ∷ rest → Contains all at
still_to_come all left rest at belongs old now s is =
    subst (λ (l : List ℕ). Contains l at) (sym (s.parts ∙ ap (λ (l : List ℕ). s.done ++ l) is ∙ sym (append_assoc s.done (at ∷ []) rest))) (Contains-append_left (s.done ++ at ∷ []) rest at (Contains-push s.done at))
