-- Slots that keep sectors of a content, as the content and the slots change.
use Rattle.std.proofs.Common.{◌≡◌, ◌≢◌, ◌<◌, ◌%◌, ℕ, inl, inr, length, get_or, set, sym, ◌∙◌, ap, subst, arith, length-set, get_or-set_same, get_or-set_other, replicate, true, refl}
use Rattle.std.specs.Prelude.{Option, None, Some}
use Rattle.std.proofs.lemmas.Bool.{cases_eq, true≢false}
use Rattle.std.proofs.lemmas.List.{get_or-replicate, length-replicate}
use Rattle.sector_disk.specs.Lists.{Content, sector}
use Rattle.jnl_replay.specs.declared.plan.Plan.{Plan}
use Rattle.jnl_store.specs.Journal.{is_closed}
use Rattle.jnl_store.specs.Cache.{AreCached, IsReread, Slots, with_slot}
use Rattle.jnl_store.specs.declared.puts.Put.{Put}

-- one slot changes, for a sector which alone changes
pub cached_set : (slots : Slots) (c d : Content) (at : ℕ) (slot : Option Put) → AreCached slots c → ((put : Put) → slot ≡ Some put → (put.at ≡ at) × (sector d at ≡ put.bytes)) → ((s : ℕ) → s ≢ at → sector d s ≡ sector c s) → AreCached (with_slot slots at slot) d
cached_set slots c d at slot are here other k put below is =
    let n = length slots in
    let long : length (set slots (at % n) slot) ≡ n = length-set slots (at % n) slot in
    let inside : k < n = omega (arith, below, long) in
    elim (cases_eq k (at % n)) [
      | inl same ↦
          let there : slot ≡ Some put = sym (ap (λ j. get_or (set slots (at % n) slot) j None) same ∙ get_or-set_same slots (at % n) slot None (omega (arith, inside, same))) ∙ is in
          let h = here put there in (
            ap (λ m. put.at % m) long ∙ ap (λ s. s % n) h.0 ∙ sym same,
            ap (sector d) h.0 ∙ h.1,
          )
      | inr apart ↦
          let there : get_or slots k None ≡ Some put = sym (get_or-set_other slots (at % n) k slot None apart) ∙ is in
          let h = are k put inside there in (
            ap (λ m. put.at % m) long ∙ h.0,
            other put.at (λ e. apart (sym h.0 ∙ ap (λ s. s % n) e)) ∙ h.1,
          )
    ]

-- slots are as they were or empty, and each that isn't keeps a sector that is the same
pub cached_each : (slots new : Slots) (c d : Content) → AreCached slots c → length new ≡ length slots → ((k : ℕ) (put : Put) → k < length slots → get_or new k None ≡ Some put → (get_or slots k None ≡ Some put) × (sector d put.at ≡ sector c put.at))
    → AreCached new d
cached_each slots new c d are long each k put below is =
    let e = each k put (omega (arith, below, long)) is in
    let h = are k put (omega (arith, below, long)) e.0 in
    (ap (λ m. put.at % m) long ∙ h.0, e.1 ∙ h.1)

pub cached_none : (n : ℕ) (c : Content) → AreCached (replicate n None) c
cached_none n c k put below is =
    let none : Option Put = None in
    let inside : k < n = omega (arith, below, length-replicate n none) in
    absurd (cc (sym (get_or-replicate n k none none inside) ∙ is))

-- the same over a content that is the same
pub cached_same : (slots : Slots) (c d : Content) → c ≡ d → AreCached slots c → AreCached slots d
cached_same slots c d e are = subst (λ (x : Content). AreCached slots x) e are

-- a slot that is as it was, and one of a sector of the journal that was read again
pub reread_same : (plan : Plan) (slot : Option Put) → IsReread plan slot slot
reread_same plan None = refl
reread_same plan (Some put) = (put, refl, refl, λ free. refl)

pub reread_now : (plan : Plan) (slot : Option Put) (put now : Put) → slot ≡ Some put → is_closed plan put.at ≡ true → now.at ≡ put.at → IsReread plan slot (Some now)
reread_now plan slot put now is own same = subst (λ (o : Option Put). IsReread plan o (Some now)) (sym is) (now, refl, same, λ free. absurd (true≢false (sym own ∙ free)))
