-- One sector of what a peek shows.
use Rattle.std.proofs.Common.{◌≡◌, ◌<◌, ℕ, Bool, true, false, List, [], length, sym, ◌∙◌, ap, arith, cond, eqb}
use Rattle.std.specs.Prelude.{Option, None, Some}
use Rattle.std.specs.List.{range_with_len}
use Rattle.std.proofs.lemmas.List.{get_or-map}
use Rattle.std.proofs.lemmas.List.FromFn.{length-range_with_len, get_or-range_with_len}
use Rattle.sector_disk.specs.Lists.{Content, sector}
use Rattle.jnl_format.specs.Text.{bytes_at}
use Rattle.jnl_replay.specs.Peeking.{peeked, seen, place_in}
use Rattle.jnl_replay.specs.Text.{words}
use Rattle.jnl_replay.specs.Viewing.{shown}
use Rattle.jnl_replay.specs.declared.index.Peek.{Peek}

sector_seen : (peek : Peek) (c : Content) (at : ℕ) → at < length c → sector (peeked peek c) at ≡ seen (words peek.text c) c at (place_in peek at)
sector_seen peek c at inside =
    let f : ℕ → List ℕ = λ i. seen (words peek.text c) c i (place_in peek i) in
    get_or-map f (range_with_len 0 (length c)) at 0 [] (omega (arith, inside, length-range_with_len 0 (length c)))
    ∙ ap f (get_or-range_with_len 0 (length c) at 0 inside ∙ omega arith)

some_case : (peek : Peek) (c : Content) (at place : ℕ) (value : List ℕ) (b : Bool) → at < length c → Some place ≡ cond b (place_in peek at) None → value ≡ bytes_at (words peek.text c) place 512 → value ≡ sector (cond b (peeked peek c) c) at
some_case peek c at place value true inside is read = read ∙ ap (λ (o : Option ℕ). seen (words peek.text c) c at o) is ∙ sym (sector_seen peek c at inside)
some_case peek c at place value false inside is read = absurd (cc is)

none_case : (peek : Peek) (c : Content) (at : ℕ) (value : List ℕ) (b : Bool) → at < length c → None ≡ cond b (place_in peek at) None → value ≡ sector c at → value ≡ sector (cond b (peeked peek c) c) at
none_case peek c at value true inside is read = read ∙ ap (λ (o : Option ℕ). seen (words peek.text c) c at o) is ∙ sym (sector_seen peek c at inside)
none_case peek c at value false inside is read = read

pub view_some : (peek : Peek) (c : Content) (total n at place : ℕ) (value : List ℕ) → n ≡ total → at < length c → Some place ≡ cond (eqb n peek.sectors) (place_in peek at) None → value ≡ bytes_at (words peek.text c) place 512 → value ≡ sector (shown peek total c) at
view_some peek c total n at place value same inside is read =
    some_case peek c at place value (eqb n peek.sectors) inside is read ∙ ap (λ k. sector (cond (eqb k peek.sectors) (peeked peek c) c) at) same

pub view_none : (peek : Peek) (c : Content) (total n at : ℕ) (value : List ℕ) → n ≡ total → at < length c → None ≡ cond (eqb n peek.sectors) (place_in peek at) None → value ≡ sector c at → value ≡ sector (shown peek total c) at
view_none peek c total n at value same inside is read =
    none_case peek c at value (eqb n peek.sectors) inside is read ∙ ap (λ k. sector (cond (eqb k peek.sectors) (peeked peek c) c) at) same
