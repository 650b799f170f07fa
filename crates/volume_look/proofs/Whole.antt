-- Each sector of what a peek shows has its 512 bytes.
use Rattle.std.proofs.Common.{◌≡◌, ◌<◌, ◌≤◌, ◌+◌, ℕ, Bool, true, false, List, [], length, drop, refl, sym, ◌∙◌, ap, subst, arith, cond, eqb}
use Rattle.std.specs.Prelude.{IsTrue, Option, None, Some}
use Rattle.std.proofs.lemmas.Bool.{eqb-true}
use Rattle.std.proofs.lemmas.List.{length-drop, length-map, length-take-le}
use Rattle.sector_disk.specs.Disk.{IsDisk, State, content}
use Rattle.sector_disk.specs.Lists.{last, sector}
use Rattle.jnl_ring.proofs.Bytes.{content_whole}
use Rattle.jnl_format.specs.Text.{bytes_at}
use Rattle.jnl_replay.specs.Peeking.{place_in}
use Rattle.jnl_replay.specs.Text.{IsText, words}
use Rattle.jnl_replay.specs.Viewing.{shown, view_size}
use Rattle.jnl_replay.specs.declared.index.Peek.{Peek}
use Rattle.jnl_replay.proofs.Texts.{length-words}
use Rattle.jnl_replay.proofs.Views.{view_none, view_some}
use Rattle.volume_base.specs.Standing.{AreWhole}

length_bytes : (text : List ℕ) (place : ℕ) → place + 512 ≤ length text → length (bytes_at text place 512) ≡ 512
length_bytes text place fits = length-take-le 512 (drop place text) (omega (arith, fits, length-drop place text))

module _ (peek : Peek) (disk : State) (is : IsDisk disk) (tells : IsTrue disk.tells) where
  here : (at : ℕ) → at < length (content disk) → (b : Bool) → eqb disk.sectors peek.sectors ≡ b → (o : Option ℕ) → cond b (place_in peek at) None ≡ o → length (sector (shown peek disk.sectors (content disk)) at) ≡ 512
  here at inside true same (Some place) found =
      let one : disk.sectors ≡ peek.sectors = eqb-true disk.sectors peek.sectors same in
      let text : IsText disk.sectors peek.text = subst (λ n. IsText n peek.text) (sym one) peek.fits in
      let long : length (words peek.text (content disk)) ≡ peek.text.length = length-words disk peek.text is tells text in
      let fits : place + 512 ≤ peek.text.length = peek.placed at place found in
      let value = bytes_at (words peek.text (content disk)) place 512 in
      ap length (sym (view_some peek (content disk) disk.sectors disk.sectors at place value refl inside (sym found ∙ ap (λ (x : Bool). cond x (place_in peek at) None) (sym same)) refl))
      ∙ length_bytes (words peek.text (content disk)) place (omega (arith, fits, long))
  here at inside false same (Some place) never = absurd (cc never)
  here at inside true same None found =
      ap length (sym (view_none peek (content disk) disk.sectors disk.sectors at (sector (content disk) at) refl inside (sym found ∙ ap (λ (x : Bool). cond x (place_in peek at) None) (sym same)) refl))
      ∙ content_whole disk is at inside
  here at inside false same None found =
      ap length (sym (view_none peek (content disk) disk.sectors disk.sectors at (sector (content disk) at) refl inside (sym found ∙ ap (λ (x : Bool). cond x (place_in peek at) None) (sym same)) refl))
      ∙ content_whole disk is at inside

  pub whole_shown : AreWhole (shown peek disk.sectors (content disk))
  whole_shown at inside =
      here at (omega (arith, inside, view_size [] peek disk is tells, length-map disk.candidates last, is.size tells)) (eqb disk.sectors peek.sectors) refl (cond (eqb disk.sectors peek.sectors) (place_in peek at) None) refl
