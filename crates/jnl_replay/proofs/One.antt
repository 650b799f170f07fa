-- One sector in place of another.
use Rattle.std.proofs.Common.{◌≡◌, ◌≢◌, ◌⊎◌, ℕ, ◌+◌, ◌<◌, ◌≤◌, List, [], ◌∷◌, Contains, inl, inr, length, refl, sym, ◌∙◌, ap, subst, arith}
use Rattle.std.proofs.lemmas.Bool.{cases_eq, cases_lt}
use Rattle.std.proofs.lemmas.List.{get_or-map, get_or_past}
use Rattle.sector_disk.specs.Lists.{Content, sector, put_sectors}
use Rattle.sector_disk.specs.Disk.{IsImage, candidates_of, only, Mixes}
use Rattle.sector_disk.proofs.Stages.{put_before, put_behind, put_inside, length-put, mixes_size, mixes_before, mixes_behind, mixes_inside, length-only}

module _ (c : Content) (at : ℕ) (value : List ℕ) (inside : at < length c) where
  one_fits : at + length (value ∷ []) ≤ length c
  one_fits = omega (arith, inside)

  pub length-one : length (put_sectors c at (value ∷ [])) ≡ length c
  length-one = length-put c at (value ∷ []) one_fits

  pub one_here : sector (put_sectors c at (value ∷ [])) at ≡ value
  one_here = let zero_more : at + 0 ≡ at = omega arith in ap (sector (put_sectors c at (value ∷ []))) (sym zero_more) ∙ put_inside c at (value ∷ []) one_fits 0 (omega arith)

  pub one_else : (s : ℕ) → s ≢ at → sector (put_sectors c at (value ∷ [])) s ≡ sector c s
  one_else s other = elim (cases_lt s at) [
    | inl before ↦ put_before c at (value ∷ []) one_fits s before
    | inr behind ↦ put_behind c at (value ∷ []) one_fits s (omega (arith, behind, other))
  ]

  -- while it is written, over a content of which nothing is pending
  pub mixed_else : (image : Content) → Mixes (only c) at (value ∷ []) image → (s : ℕ) → s ≢ at → sector image s ≡ sector c s
  mixed_else image m s other = elim (cases_lt s (length c)) [
    | inl here ↦ elim (cases_lt s at) [
      | inl before ↦ mixes_before c at (value ∷ []) image m s here before
      | inr behind ↦ mixes_behind c at (value ∷ []) image m s here (omega (arith, behind, other))
    ]
    | inr past ↦ get_or_past image s [] (omega (arith, past, mixes_size c at (value ∷ []) image m)) ∙ sym (get_or_past c s [] past)
  ]

  pub mixed_here : (image : Content) → Mixes (only c) at (value ∷ []) image → (sector image at ≡ sector c at) ⊎ (sector image at ≡ value)
  mixed_here image m =
      let zero_more : at + 0 ≡ at = omega arith in
      subst (λ k. (sector image k ≡ sector c k) ⊎ (sector image k ≡ value)) zero_more (mixes_inside c at (value ∷ []) image m 0 (omega (arith, inside)))

-- a content of which nothing is pending is its own image
pub only_image : (c : Content) → IsImage (only c) c
only_image c = record {
  size = sym (length-only c);
  each = λ at inside.
      let below : at < length c = omega (arith, inside, length-only c) in
      subst (λ (l : List (List ℕ)). Contains l (sector c at)) (sym (get_or-map (λ (v : List ℕ). v ∷ []) c at [] [] below)) (0, omega arith, refl);
}

-- a content with one sector in place of another is one of those that its write leaves
pub put_mixes : (c : Content) (at : ℕ) (value : List ℕ) → at < length c → Mixes (only c) at (value ∷ []) (put_sectors c at (value ∷ []))
put_mixes c at value inside = record {
  size = length-one c at value inside ∙ sym (length-only c);
  each = λ s below. elim (cases_eq s at) [
    | inl is ↦ inr (0, omega arith, omega (arith, is), ap (sector (put_sectors c at (value ∷ []))) is ∙ one_here c at value inside)
    | inr other ↦ inl (subst (λ (v : List ℕ). Contains (candidates_of (only c) s) v) (sym (one_else c at value inside s other)) ((only_image c).each s below))
  ];
}
