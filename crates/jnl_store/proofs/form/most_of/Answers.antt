use Rattle.std.proofs.Common.{◌≡◌, ◌<◌, ◌+◌, ◌-◌, ◌*◌, ◌/◌, ◌%◌, ℕ, subst, sym, arith}
use Rattle.jnl_ring.specs.declared.span.Span.{Span}
use Rattle.jnl_store.specs.Lists.{IsCapacity, most_puts}
use Rattle.jnl_store.specs.declared.form.ListForm.{ListForm}
use Rattle.jnl_store.proofs.ListsCount.{count_is, count_fits, count_most}
use Rattle.jnl_store.proofs.form.most_of.Goals as goal

-- whole rounds of a header and as many puts as its list takes, and what is left behind another header
fills : (span : Span) (form : ListForm) (room rounds left : ℕ) → 0 < most_puts form.blhdr → room ≡ span.size / 512 - 2 → left < form.blhdr / 512 + most_puts form.blhdr → room ≡ rounds * (form.blhdr / 512 + most_puts form.blhdr) + left
    → IsCapacity span form (rounds * most_puts form.blhdr + (left - form.blhdr / 512))
fills span form room rounds left some is below all =
    let header = form.blhdr / 512 in
    let most = most_puts form.blhdr in
    let puts = rounds * most + (left - header) in
    record {
      fits = omega (arith, count_fits header most rounds left some below ((puts + (most - 1)) / most) (count_is most puts some));
      most = λ more above. omega (arith, count_most header most rounds left below more ((more + (most - 1)) / most) above (count_is most more some));
    }

pub returns : goal.returns
returns c =
    let span = c.args.span.now in
    let form = c.args.form.now in
    let header = form.blhdr / 512 in
    let most = most_puts form.blhdr in
    let room = span.size / 512 - 2 in
    let some : 0 < most = omega arith in
    let h = c.header_sectors-header.result in
    let m = c.puts_at_most-puts.result in
    let P : ℕ → ℕ → Type 0 = λ x y. IsCapacity span form (room / (x + y) * y + (room % (x + y) - x)) in
    let there : P header most = fills span form room (room / (header + most)) (room % (header + most)) some (omega arith) (omega arith) (omega arith) in
    let at_h : P h most = subst (λ x. P x most) (sym c.header_sectors-header.ensures) there in
    let at_m : P h m = subst (λ y. P h y) (sym c.puts_at_most-puts.ensures) at_h in
    subst (λ x. IsCapacity span form (room / (h + m) * m + x)) (sym c.saturating_sub.ensures) at_m
