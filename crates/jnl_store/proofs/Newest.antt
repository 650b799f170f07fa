-- The last of several homes of a sector: what it gives, and how homes join.
use Rattle.std.proofs.Common.{◌≡◌, ◌⊎◌, ◌<◌, ◌≤◌, ◌+◌, ℕ, Bool, true, false, List, [], ◌∷◌, ◌++◌, length, set, inl, inr, refl, sym, ◌∙◌, ap, arith, eqb, cond, length-set, get_or-set_same, get_or-set_other}
use Rattle.std.specs.Prelude.{Option, None, Some}
use Rattle.std.proofs.lemmas.Bool.{eqb-true, eq-eqb, true≢false}
use Rattle.sector_disk.specs.Lists.{Content, sector}
use Rattle.jnl_format.specs.Named.{Each, IsGoodHome, IsHomeOf}
use Rattle.jnl_format.specs.Recovery.{with_homes}
use Rattle.jnl_format.specs.Text.{bytes_at}
use Rattle.jnl_format.specs.declared.blocks.Home.{Home}
use Rattle.jnl_format.specs.declared.blocks.Volume.{Volume}
use Rattle.jnl_store.specs.Newest.{is_same_place, newest, or_later}

-- the same place from the test, and the test from it
pub same_place : (a b : Option ℕ) → is_same_place a b ≡ true → a ≡ b
same_place None None h = refl
same_place None (Some b) h = absurd (cc h)
same_place (Some a) None h = absurd (cc h)
same_place (Some a) (Some b) h = ap (λ n. Some n) (eqb-true a b h)

pub place_same : (a b : Option ℕ) → a ≡ b → is_same_place a b ≡ true
place_same None None h = refl
place_same None (Some b) h = absurd (cc h)
place_same (Some a) None h = absurd (cc h)
place_same (Some a) (Some b) h = let e : a ≡ b = cc h in eq-eqb a b e

pub later_none : (o : Option ℕ) → or_later o None ≡ o
later_none None = refl
later_none (Some p) = refl

pub later_assoc : (a b c : Option ℕ) → or_later a (or_later b c) ≡ or_later (or_later a b) c
later_assoc None b c = refl
later_assoc (Some p) b c = refl

-- the place of one home, where it is of this sector
abbrev pub own : Home → ℕ → Option ℕ
own home at = cond (eqb at home.sector) (Some home.place) None

pub newest_append : (a b : List Home) (at : ℕ) → newest (a ++ b) at ≡ or_later (newest b at) (newest a at)
newest_append [] b at = sym (later_none (newest b at))
newest_append (h ∷ hs) b at = ap (λ (o : Option ℕ). or_later o (own h at)) (newest_append hs b at) ∙ sym (later_assoc (newest b at) (newest hs at) (own h at))

-- a place, or none
pub place_or : (o : Option ℕ) → (o ≡ None) ⊎ ((p : ℕ) × (o ≡ Some p))
place_or None = inl refl
place_or (Some p) = inr (p, refl)

none_both : (a b : Option ℕ) → or_later a b ≡ None → (a ≡ None) × (b ≡ None)
none_both None b h = (refl, h)
none_both (Some p) b h = absurd (cc h)

own_none : (b : Bool) (p : ℕ) → cond b (Some p) None ≡ None → b ≡ false
own_none true p h = absurd (cc h)
own_none false p h = refl

own_some : (b : Bool) (q p : ℕ) → cond b (Some q) None ≡ Some p → (b ≡ true) × (q ≡ p)
own_some true q p h = (refl, cc h)
own_some false q p h = absurd (cc h)

-- a sector that no home is of is as it was
pub newest_none : (text : List ℕ) (homes : List Home) (c : Content) (at : ℕ) → newest homes at ≡ None → sector (with_homes text homes c) at ≡ sector c at
newest_none text [] c at none = refl
newest_none text (h ∷ hs) c at none =
    let p = none_both (newest hs at) (own h at) none in
    let apart : eqb at h.sector ≡ false = own_none (eqb at h.sector) h.place p.1 in
    newest_none text hs (set c h.sector (bytes_at text h.place 512)) at p.0
    ∙ get_or-set_other c h.sector at (bytes_at text h.place 512) [] (λ e. true≢false (sym (eq-eqb at h.sector e) ∙ apart))

-- and one that some are of has the bytes of the last
pub newest_value : (text : List ℕ) (homes : List Home) (c : Content) (at p : ℕ) → at < length c → newest homes at ≡ Some p → sector (with_homes text homes c) at ≡ bytes_at text p 512
newest_value text [] c at p inside some = absurd (cc some)
newest_value text (h ∷ hs) c at p inside some =
    let value = bytes_at text h.place 512 in
    elim (place_or (newest hs at)) [
      | inl none ↦
          let o = own_some (eqb at h.sector) h.place p (ap (λ (x : Option ℕ). or_later x (own h at)) (sym none) ∙ some) in
          let here : at ≡ h.sector = eqb-true at h.sector o.0 in
          newest_none text hs (set c h.sector value) at none
          ∙ ap (sector (set c h.sector value)) here
          ∙ get_or-set_same c h.sector value [] (omega (arith, inside, here))
          ∙ ap (λ n. bytes_at text n 512) o.1
      | inr later ↦
          newest_value text hs (set c h.sector value) at later.0 (omega (arith, inside, length-set c h.sector value)) later.1
          ∙ ap (λ n. bytes_at text n 512) (let e : Some later.0 ≡ Some p = ap (λ (x : Option ℕ). or_later x (own h at)) (sym later.1) ∙ some in cc e)
    ]

-- its bytes lie in the text
pub newest_inside : (volume : Volume) (text : List ℕ) (homes : List Home) (at p : ℕ) → Each (IsGoodHome volume text) homes → newest homes at ≡ Some p → p + 512 ≤ length text
newest_inside volume text [] at p all some = absurd (cc some)
newest_inside volume text (h ∷ hs) at p all some = elim (place_or (newest hs at)) [
  | inl none ↦
      let o = own_some (eqb at h.sector) h.place p (ap (λ (x : Option ℕ). or_later x (own h at)) (sym none) ∙ some) in
      omega (arith, all.0.placed, o.1)
  | inr later ↦
      let e : Some later.0 ≡ Some p = ap (λ (x : Option ℕ). or_later x (own h at)) (sym later.1) ∙ some in
      let same : later.0 ≡ p = cc e in
      omega (arith, newest_inside volume text hs at later.0 all.1 later.1, same)
]

-- and they are those of one of its homes
pub newest_of : (text : List ℕ) (homes : List Home) (at p : ℕ) → newest homes at ≡ Some p → IsHomeOf text homes at (bytes_at text p 512)
newest_of text [] at p some = absurd (cc some)
newest_of text (h ∷ hs) at p some = elim (place_or (newest hs at)) [
  | inl none ↦
      let o = own_some (eqb at h.sector) h.place p (ap (λ (x : Option ℕ). or_later x (own h at)) (sym none) ∙ some) in
      inl (sym (eqb-true at h.sector o.0), ap (λ n. bytes_at text n 512) (sym o.1))
  | inr later ↦
      let e : Some later.0 ≡ Some p = ap (λ (x : Option ℕ). or_later x (own h at)) (sym later.1) ∙ some in
      inr (newest_of text hs at p (later.1 ∙ e))
]
