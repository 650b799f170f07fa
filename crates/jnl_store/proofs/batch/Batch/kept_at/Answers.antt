use Rattle.std.proofs.Common.{◌∙◌, ap, subst}
use Rattle.std.specs.Prelude.{Some}
use Rattle.jnl_store.specs.Batch.{AreOnce, Staged, bytes_of}
use Rattle.jnl_store.specs.declared.puts.Put.{Put}
use Rattle.jnl_store.proofs.Saved.{bytes_value, kept_none, kept_put, once_restored}
use Rattle.jnl_store.proofs.batch.Batch.kept_at.Goals as goal

pub returns-in-Some-clause-bytes : goal.returns-in-Some-clause-bytes
returns-in-Some-clause-bytes c =
    let i = c.self.inside in
    ap (λ (p : Put). Some p.bytes) c.was.ensures ∙ kept_put i.puts.items i.saved.items i.kept c.args.at c.in-Some.put.now c.in-Some.ensures.put ∙ ap (λ (s : Staged). bytes_of s.kept c.args.at) c.self.view_is

pub returns-in-None-clause-bytes : goal.returns-in-None-clause-bytes
returns-in-None-clause-bytes c =
    let i = c.self.inside in
    kept_none i.puts.items i.saved.items i.kept c.args.at c.in-None.ensures.put ∙ ap (λ (s : Staged). bytes_of s.kept c.args.at) c.self.view_is

pub returns-in-Some-clause-value : goal.returns-in-Some-clause-value
returns-in-Some-clause-value c content inside =
    let i = c.self.inside in
    let once = subst AreOnce (ap (λ (s : Staged). s.kept) c.self.view_is) (once_restored i.puts.items i.saved.items i.kept c.among.ensures.once) in
    bytes_value c.args.self.now.kept _ c.args.at once
    (ap (λ (p : Put). Some p.bytes) c.was.ensures ∙ kept_put i.puts.items i.saved.items i.kept c.args.at c.in-Some.put.now c.in-Some.ensures.put ∙ ap (λ (s : Staged). bytes_of s.kept c.args.at) c.self.view_is) content inside

pub returns-in-None-clause-value : goal.returns-in-None-clause-value
returns-in-None-clause-value c content inside =
    let i = c.self.inside in
    let once = subst AreOnce (ap (λ (s : Staged). s.kept) c.self.view_is) (once_restored i.puts.items i.saved.items i.kept c.among.ensures.once) in
    bytes_value c.args.self.now.kept _ c.args.at once
    (kept_none i.puts.items i.saved.items i.kept c.args.at c.in-None.ensures.put ∙ ap (λ (s : Staged). bytes_of s.kept c.args.at) c.self.view_is) content inside
