-- Homes written over contents that differ.
use Rattle.std.proofs.Common.{◌≡◌, ◌≢◌, ◌⊎◌, ℕ, ◌<◌, true, List, [], ◌∷◌, length, replicate, set, inl, inr, ⊎_elim, refl, sym, ◌∙◌, ap, subst, arith, length-set, get_or-set_same, get_or-set_other}
use Rattle.std.proofs.lemmas.Bool.{cases_eq, cases_lt, cases_Bool}
use Rattle.std.proofs.lemmas.List.{get_or-replicate, length-replicate, length-take-le, get_or_past}
use Rattle.sector_disk.specs.Lists.{Content, sector}
use Rattle.sector_disk.specs.Space.{AgreesOutside}
use Rattle.jnl_format.specs.Recovery.{with_homes}
use Rattle.jnl_format.specs.Text.{bytes_at}
use Rattle.jnl_format.specs.declared.blocks.Home.{Home}
use Rattle.jnl_format.specs.declared.blocks.Volume.{Volume}
use Rattle.jnl_format.specs.Named.{Each, IsGoodHome}
use Rattle.jnl_format.proofs.Mixing.{home_has, mixes_with_homes, named_home}
use Rattle.jnl_format.specs.Named.{IsHomeOf, IsNamed}
use Rattle.std.proofs.Common.{length-drop}
use Rattle.jnl_store.specs.Batch.{names}
use Rattle.jnl_store.specs.Overlay.{overlay}
use Rattle.jnl_store.specs.declared.puts.Put.{Put}
use Rattle.jnl_store.proofs.Batches.{overlay-other}

pub set_both : (old new : Content) (at : ℕ) (value : List ℕ) → length new ≡ length old → sector (set new at value) at ≡ sector (set old at value) at
set_both old new at value size = elim (cases_lt at (length old)) [
  | inl below ↦ get_or-set_same new at value [] (omega (arith, below, size)) ∙ sym (get_or-set_same old at value [] below)
  | inr past ↦ get_or_past (set new at value) at [] (omega (arith, past, size, length-set new at value)) ∙ sym (get_or_past (set old at value) at [] (omega (arith, past, length-set old at value)))
]

-- Contents that agree but in some sectors and in those that are named agree but in the first, once the homes are written.
pub homes_agree : (text : List ℕ) (homes : List Home) (these : ℕ → Type 0) (old new : Content) → AgreesOutside (λ s. these s ⊎ IsNamed homes s) old new → AgreesOutside these (with_homes text homes old) (with_homes text homes new)
homes_agree text [] these old new a = record { size = a.size; each = λ s. elim (a.each s) [ inl e ↦ inl e | inr (inl p) ↦ inr p | inr (inr none) ↦ absurd none ] }
homes_agree text (h ∷ hs) these old new a =
    let value = bytes_at text h.place 512 in
    homes_agree text hs these (set old h.sector value) (set new h.sector value) (record {
      size = length-set new h.sector value ∙ a.size ∙ sym (length-set old h.sector value);
      each = λ s. elim (cases_eq s h.sector) [
        | inl same ↦ inl (subst (λ k. sector (set new h.sector value) k ≡ sector (set old h.sector value) k) (sym same) (set_both old new h.sector value a.size))
        | inr other ↦ elim (a.each s) [
          | inl e ↦ inl (get_or-set_other new h.sector s value [] other ∙ e ∙ sym (get_or-set_other old h.sector s value [] other))
          | inr (inl p) ↦ inr (inl p)
          | inr (inr (inl same)) ↦ absurd (other (sym same))
          | inr (inr (inr named)) ↦ inr (inr named)
        ]
      ];
    })

-- a named sector has the same bytes over any content
pub named_value : (text : List ℕ) (homes : List Home) (old new : Content) (s : ℕ) → length new ≡ length old → IsNamed homes s → sector (with_homes text homes new) s ≡ sector (with_homes text homes old) s
named_value text homes old new s size named =
    let P : ℕ → Type 0 = λ k. k ≢ s in
    let a : AgreesOutside P (with_homes text homes old) (with_homes text homes new) = homes_agree text homes P old new (record {
      size = size;
      each = λ k. elim (cases_eq k s) [ inl same ↦ inr (inr (subst (IsNamed homes) (sym same) named)) | inr other ↦ inr (inl other) ];
    }) in
    ⊎_elim (λ e. e) (λ n. absurd (n refl)) (a.each s)

-- a sector is as it was, or one of the homes is of it
homes_else : (text : List ℕ) (homes : List Home) (c : Content) (s : ℕ) → (sector (with_homes text homes c) s ≡ sector c s) ⊎ IsNamed homes s
homes_else text homes c s = ⊎_elim (λ e. inl e) (λ h. inr (named_home text homes s (sector (with_homes text homes c) s) h)) ((mixes_with_homes text homes c).each s)

-- Where homes do what others do and then puts: what they name, a put or the others name.
pub named_back : (more text : List ℕ) (named homes : List Home) (puts : List Put) (n s : ℕ) → s < n → ((c : Content) → with_homes more named c ≡ overlay puts (with_homes text homes c)) → IsNamed named s → (names puts s ≡ true) ⊎ IsNamed homes s
named_back more text named homes puts n s inside does is = elim (cases_Bool (names puts s)) [
  | inl put ↦ inl put
  | inr alone ↦
      let none : List ℕ = [] in
      let zero : List ℕ = 0 ∷ [] in
      let one : Content = replicate n none in
      let other : Content = replicate n zero in
      let size : length other ≡ length one = length-replicate n zero ∙ sym (length-replicate n none) in
      let same : sector (with_homes text homes other) s ≡ sector (with_homes text homes one) s =
      sym (overlay-other puts (with_homes text homes other) s alone) ∙ sym (ap (λ (c : Content). sector c s) (does other)) ∙ named_value more named one other s size is
      ∙ ap (λ (c : Content). sector c s) (does one) ∙ overlay-other puts (with_homes text homes one) s alone in
      inr (⊎_elim
      (λ (a : sector (with_homes text homes other) s ≡ sector other s). ⊎_elim
      (λ (b : sector (with_homes text homes one) s ≡ sector one s).
      absurd (let no : zero ≡ none = sym (get_or-replicate n s zero none inside) ∙ sym a ∙ same ∙ b ∙ get_or-replicate n s none none inside in cc no))
      (λ h. h) (homes_else text homes one s))
      (λ h. h) (homes_else text homes other s))
]

-- the bytes of a home are a sector's
pub home_long : (volume : Volume) (text : List ℕ) (homes : List Home) (s : ℕ) (value : List ℕ) → Each (IsGoodHome volume text) homes → IsHomeOf text homes s value → length value ≡ 512
home_long volume text homes s value all h =
    let Q : List ℕ → Type 0 = λ v. length v ≡ 512 in
    home_has (IsGoodHome volume text) Q text homes s value all (λ home good at. length-take-le 512 _ (omega (arith, length-drop home.place text, good.placed))) h
