use Rattle.std.proofs.Common.{◌≡◌, ◌≤◌, ◌+◌, min, true, false, length, refl, sym, ◌∙◌, ap, subst, arith}
use Rattle.std.specs.Prelude.{if◌then◌else◌}
use Rattle.std.proofs.lemmas.Bool.{true≢false}
use Rattle.flag_rows.specs.Bits.{sectors_for}
use Rattle.fork_map.specs.Blocks.{blocks_of}
use Rattle.file_io.specs.Places.{given}
use Rattle.volume_base.specs.Giving.{counted_anew, is_trade, takes_some}
use Rattle.volume_base.specs.Mapping.{HoldsUnchanged}
use Rattle.volume_base.specs.Standing.{StandsOver}
use Rattle.volume_base.specs.declared.volume.Volume.{Volume}
use Rattle.volume_base.proofs.GivenBits.{unchanged_given}
use Rattle.volume_base.proofs.Remapped.{stands_kept}
use Rattle.volume_base.proofs.Traded.{few_traded}
use Rattle.volume_base.proofs.volume.Volume.trade_blocks.Goals as goal

pub put_blocks-requires-clause-stands : goal.put_blocks-requires-clause-stands
put_blocks-requires-clause-stands g c =
    subst (λ (x : Volume). StandsOver x (g.P.SectorView.space c.args.space.now)) (sym c.in_ok-give_back.ensures.rest)
    (stands_kept c.args.self.now c.give_back.new.self.map (c.in_ok-give_back.ensures.keeps c.requires.stands.service.marks) (g.P.SectorView.space c.args.space.now) c.requires.stands)

pub put_blocks-requires-clause-unchanged : goal.put_blocks-requires-clause-unchanged
put_blocks-requires-clause-unchanged g c told =
    subst (λ (x : Volume). HoldsUnchanged x (g.P.SectorView.space c.args.space.now).content) (sym (c.in_ok-give_back.ensures.gives (c.requires.apart told) (c.requires.used told)))
    (unchanged_given c.args.self.now c.args.old.now (c.requires.used told) c.requires.stands.service.marks (g.P.SectorView.space c.args.space.now).content (c.requires.unchanged told))

pub put_blocks-requires-clause-room : goal.put_blocks-requires-clause-room
put_blocks-requires-clause-room g c =
    let keeps = c.in_ok-give_back.ensures.keeps c.requires.stands.service.marks in
    let few = few_traded c.give_back.new.self (length c.args.self.now.map.used) c.args.touched (length (blocks_of c.args.old.now)) (g.P.SectorView.space c.args.space.now).put (keeps.changed ∙ c.requires.stands.service.marks) (omega (arith, c.in_ok-give_back.ensures.few, c.requires.touched)) in
    omega (arith, few, c.count_traded-sectors.ensures, c.if-spare-sectors.false)

pub returns-clause-trades : goal.returns-clause-trades
returns-clause-trades g c tells =
    let trade : is_trade (takes_some c.args.touched) c.args.old.now ≡ true = sym c.is_trade.ensures ∙ c.if-not-is_trade.false in
    c.put_blocks.ensures.counted ∙ ap counted_anew (c.in_ok-give_back.ensures.gives (c.requires.apart tells) (c.requires.used tells))
    ∙ sym (ap (λ b. if b then counted_anew (record c.args.self.now { map = given c.args.old.now c.args.self.now.map }) else c.args.self.now) trade)

pub returns-clause-put : goal.returns-clause-put
returns-clause-put g c tells =
    let trade : is_trade (takes_some c.args.touched) c.args.old.now ≡ true = sym c.is_trade.ensures ∙ c.if-not-is_trade.false in
    (λ is. c.put_blocks.ensures.put tells, λ isnt. absurd (true≢false (sym trade ∙ isnt)))

pub returns-clause-spent : goal.returns-clause-spent
returns-clause-spent g c =
    let trade : is_trade (takes_some c.args.touched) c.args.old.now ≡ true = sym c.is_trade.ensures ∙ c.if-not-is_trade.false in
    let keeps = c.in_ok-give_back.ensures.keeps c.requires.stands.service.marks in
    let few = few_traded c.give_back.new.self (length c.args.self.now.map.used) c.args.touched (length (blocks_of c.args.old.now)) (g.P.SectorView.space c.args.space.now).put (keeps.changed ∙ c.requires.stands.service.marks) (omega (arith, c.in_ok-give_back.ensures.few, c.requires.touched)) in
    let load = ap (λ b. if b then min (sectors_for (length c.args.self.now.map.used)) (c.args.touched + length (blocks_of c.args.old.now)) + 1 else 0) trade in
    omega (arith, few, load, c.put_blocks.ensures.spent)

pub returns-clause-is_put : goal.returns-clause-is_put
returns-clause-is_put g c tells is = c.put_blocks.ensures.is_put tells

pub returns-then-not-is_trade-clause-trades : goal.returns-then-not-is_trade-clause-trades
returns-then-not-is_trade-clause-trades g c tells = sym (ap (λ b. if b then counted_anew (record c.args.self.now { map = given c.args.old.now c.args.self.now.map }) else c.args.self.now) (sym c.is_trade.ensures ∙ c.if-not-is_trade.true))

pub returns-then-not-is_trade-clause-put : goal.returns-then-not-is_trade-clause-put
returns-then-not-is_trade-clause-put g c tells = (λ is. absurd (true≢false (sym is ∙ sym c.is_trade.ensures ∙ c.if-not-is_trade.true)), λ isnt. refl)

pub returns-then-not-is_trade-clause-is_put : goal.returns-then-not-is_trade-clause-is_put
returns-then-not-is_trade-clause-is_put g c tells is = absurd (true≢false (sym is ∙ sym c.is_trade.ensures ∙ c.if-not-is_trade.true))

pub returns-then-not-is_trade-clause-spent : goal.returns-then-not-is_trade-clause-spent
returns-then-not-is_trade-clause-spent g c = omega arith
