-- Slots of which none names a sector of the journal.
use Rattle.std.proofs.Common.{◌≡◌, ◌≢◌, ◌⊎◌, ◌<◌, ℕ, Bool, true, false, ◌||◌, inl, inr, List, [], length, length-set, get_or, get_or-set_same, get_or-set_other, set, refl, sym, ◌∙◌, ap, subst, arith}
use Rattle.std.specs.Prelude.{Option, None, Some}
use Rattle.std.proofs.lemmas.Bool.{cases_eq, or_parts, true≢false}
use Rattle.sector_disk.specs.Lists.{Content}
use Rattle.jnl_replay.specs.declared.plan.Plan.{Plan}
use Rattle.jnl_store.specs.Cache.{AreRead, AreSlots, EachReread, IsCache, IsRead, Slots, sized_slot, slot_with, slots_with}
use Rattle.jnl_store.specs.Own.{NamesNone, own_of, owns}
use Rattle.jnl_store.specs.declared.own.Own.{Own}
use Rattle.jnl_store.proofs.Cached.{reread_same}
use Rattle.jnl_store.proofs.Sides.{read_through}

-- a slot takes the name of another sector
none_set : (own : Own) (names : List (Option ℕ)) (k at : ℕ) → NamesNone own names → owns own at ≡ false → NamesNone own (set names k (Some at))
none_set own names k at none other j s below is =
    let inside : j < length names = omega (arith, below, length-set names k (Some at)) in
    elim (cases_eq j k) [
      | inl same ↦
          let here : get_or (set names k (Some at)) j None ≡ Some at = ap (λ n. get_or (set names k (Some at)) n None) same ∙ get_or-set_same names k (Some at) None (omega (arith, inside, same)) in
          let e : at ≡ s = cc (sym here ∙ is) in
          ap (owns own) (sym e) ∙ other
      | inr apart ↦ none j s inside (sym (get_or-set_other names k j (Some at) None apart) ∙ is)
    ]

pub cache_set : (own : Own) (names : List (Option ℕ)) (bytes new_bytes : List (List ℕ)) (may now : Bool) (k at : ℕ) → IsCache names bytes own may → AreSlots (set names k (Some at)) new_bytes → now ≡ (may || owns own at) → IsCache (set names k (Some at)) new_bytes own now
cache_set own names bytes new_bytes may now k at is slots now_is = record {
  slots = slots;
  none = λ no. let p = or_parts may (owns own at) (sym now_is ∙ no) in none_set own names k at (is.none p.0) p.1;
}

-- slots that name no sector of the journal are as a reading of them again leaves them
pub unread : (plan : Plan) (slots new : Slots) → new ≡ slots → EachReread plan slots new
unread plan slots new same = subst (λ (l : Slots). EachReread plan slots l) (sym same) (refl, λ k below. reread_same plan (get_or slots k None))

read_slot : (plan : Plan) (content : Content) (name : Option ℕ) (bytes : List ℕ) → ((at : ℕ) → name ≡ Some at → owns (own_of plan) at ≡ false) → IsRead plan content (slot_with name bytes)
read_slot plan content None bytes other = tt
read_slot plan content (Some at) bytes other = sized (cases_eq (length bytes) 512)
  where
    sized : (s : (length bytes ≡ 512) ⊎ (length bytes ≢ 512)) → IsRead plan content (sized_slot at bytes s)
    sized (inl whole) = λ own. absurd (true≢false (sym own ∙ other at refl))
    sized (inr short) = tt

pub owns_none : (plan : Plan) (content : Content) (own : Own) (names : List (Option ℕ)) (bytes : List (List ℕ)) (now : Slots) → own ≡ own_of plan → NamesNone own names → slots_with names bytes ≡ now → AreRead plan content now
owns_none plan content own names bytes now same none view = subst (AreRead plan content) view (read_through plan content names bytes (λ k below.
    read_slot plan content (get_or names k None) (get_or bytes k []) (λ at is. ap (λ (o : Own). owns o at) (sym same) ∙ none k at below is)))
