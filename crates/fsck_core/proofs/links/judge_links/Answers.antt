use Rattle.std.proofs.Common.{refl, sym, subst}
use Rattle.std.specs.List.Sorted.{IsNonDecreasing}
use Rattle.fsck_core.proofs.LinkLaws.{found_there, has_links, same_links, links_decided, name_adds, name_decided, link_adds, count_adds}
use Rattle.fsck_core.proofs.links.judge_links.Goals as goal

pub returns-in_err-named-clause-each : goal.returns-in_err-named-clause-each
returns-in_err-named-clause-each c volume ready =
    let found_is = found_there volume c.args.pairs.now c.args.rows.now ready c.as_slice.result.now c.in_ok-found.found c.as_slice.ensures c.in_ok-found.ensures in
    let have =
    has_links volume c.args.pairs.now c.args.rows.now ready c.in_ok-found.found c.folder_id-private.result c.in_ok-hidden.hidden.items c.in_ok-files.files.items c.deref.result.now c.in_ok-shared.shared.items c.in_ok-links.links.items
    found_is c.folder_id-private.ensures c.in_ok-hidden.ensures.hides c.in_ok-files.ensures c.deref.ensures.value c.in_ok-shared.ensures.same c.in_ok-links.ensures.same in
    name_adds volume c.args.pairs.now c.args.rows.now ready c.in_ok-hidden.hidden.items have.hides c.in_ok-files.files.items have.are c.in_ok-shared.shared.items have.shared_are c.in_ok-links.links.items have.links_are c.in_ok-found.found c.is_private.result c.id_found.result c.args.out.now c.add_unless.new.out found_is c.is_private.ensures c.id_found.ensures c.add_unless.ensures.each

pub returns-in_err-good-clause-each : goal.returns-in_err-good-clause-each
returns-in_err-good-clause-each c volume ready =
    let found_is = found_there volume c.args.pairs.now c.args.rows.now ready c.as_slice.result.now c.in_ok-found.found c.as_slice.ensures c.in_ok-found.ensures in
    let have =
    has_links volume c.args.pairs.now c.args.rows.now ready c.in_ok-found.found c.folder_id-private.result c.in_ok-hidden.hidden.items c.in_ok-files.files.items c.deref.result.now c.in_ok-shared.shared.items c.in_ok-links.links.items
    found_is c.folder_id-private.ensures c.in_ok-hidden.ensures.hides c.in_ok-files.ensures c.deref.ensures.value c.in_ok-shared.ensures.same c.in_ok-links.ensures.same in
    let there =
    same_links volume c.args.rows.now c.in_ok-hidden.hidden.items c.deref-2.result.now c.in_ok-files.files.items c.in_ok-files.files.items c.in_ok-shared.shared.items c.deref-3.result.now c.in_ok-links.links.items c.in_ok-links.links.items
    c.deref-2.ensures.value refl c.deref-3.ensures.value refl have in
    link_adds volume c.args.pairs.now c.args.rows.now ready c.deref-2.result.now there.hides c.in_ok-files.files.items there.are c.deref-3.result.now there.shared_are c.in_ok-links.links.items there.links_are c.args.out.now c.add_unless.new.out c.judge_each.new.out
    (name_adds volume c.args.pairs.now c.args.rows.now ready c.deref-2.result.now there.hides c.in_ok-files.files.items there.are c.deref-3.result.now there.shared_are c.in_ok-links.links.items there.links_are c.in_ok-found.found c.is_private.result c.id_found.result c.args.out.now c.add_unless.new.out found_is c.is_private.ensures c.id_found.ensures c.add_unless.ensures.each)
    (c.judge_each.ensures.each (subst IsNonDecreasing (sym c.deref-3.ensures.value) c.in_ok-shared.ensures.order))

pub returns-in_err-counted-clause-each : goal.returns-in_err-counted-clause-each
returns-in_err-counted-clause-each c volume ready =
    let found_is = found_there volume c.args.pairs.now c.args.rows.now ready c.as_slice.result.now c.in_ok-found.found c.as_slice.ensures c.in_ok-found.ensures in
    let have =
    has_links volume c.args.pairs.now c.args.rows.now ready c.in_ok-found.found c.folder_id-private.result c.in_ok-hidden.hidden.items c.in_ok-files.files.items c.deref.result.now c.in_ok-shared.shared.items c.in_ok-links.links.items
    found_is c.folder_id-private.ensures c.in_ok-hidden.ensures.hides c.in_ok-files.ensures c.deref.ensures.value c.in_ok-shared.ensures.same c.in_ok-links.ensures.same in
    let there =
    same_links volume c.args.rows.now c.in_ok-hidden.hidden.items c.deref-2.result.now c.in_ok-files.files.items c.deref-5.result.now c.in_ok-shared.shared.items c.deref-3.result.now c.in_ok-links.links.items c.deref-4.result.now
    c.deref-2.ensures.value c.deref-5.ensures.value c.deref-3.ensures.value c.deref-4.ensures.value have in
    count_adds volume c.args.pairs.now c.args.rows.now ready c.deref-2.result.now there.hides c.deref-5.result.now there.are c.deref-3.result.now there.shared_are c.deref-4.result.now there.links_are c.args.out.now c.judge_each.new.out c.judge_link_counts.new.out
    (link_adds volume c.args.pairs.now c.args.rows.now ready c.deref-2.result.now there.hides c.deref-5.result.now there.are c.deref-3.result.now there.shared_are c.deref-4.result.now there.links_are c.args.out.now c.add_unless.new.out c.judge_each.new.out
    (name_adds volume c.args.pairs.now c.args.rows.now ready c.deref-2.result.now there.hides c.deref-5.result.now there.are c.deref-3.result.now there.shared_are c.deref-4.result.now there.links_are c.in_ok-found.found c.is_private.result c.id_found.result c.args.out.now c.add_unless.new.out found_is c.is_private.ensures c.id_found.ensures c.add_unless.ensures.each)
    (c.judge_each.ensures.each (subst IsNonDecreasing (sym c.deref-3.ensures.value) c.in_ok-shared.ensures.order)))
    (c.judge_link_counts.ensures.each (subst IsNonDecreasing (sym c.deref-4.ensures.value) c.in_ok-links.ensures.order))

pub returns-clause-decided : goal.returns-clause-decided
returns-clause-decided c volume ready =
    let found_is = found_there volume c.args.pairs.now c.args.rows.now ready c.as_slice.result.now c.in_ok-found.found c.as_slice.ensures c.in_ok-found.ensures in
    let have =
    has_links volume c.args.pairs.now c.args.rows.now ready c.in_ok-found.found c.folder_id-private.result c.in_ok-hidden.hidden.items c.in_ok-files.files.items c.deref.result.now c.in_ok-shared.shared.items c.in_ok-links.links.items
    found_is c.folder_id-private.ensures c.in_ok-hidden.ensures.hides c.in_ok-files.ensures c.deref.ensures.value c.in_ok-shared.ensures.same c.in_ok-links.ensures.same in
    let there =
    same_links volume c.args.rows.now c.in_ok-hidden.hidden.items c.deref-2.result.now c.in_ok-files.files.items c.deref-5.result.now c.in_ok-shared.shared.items c.deref-3.result.now c.in_ok-links.links.items c.deref-4.result.now
    c.deref-2.ensures.value c.deref-5.ensures.value c.deref-3.ensures.value c.deref-4.ensures.value have in
    links_decided volume c.args.pairs.now c.args.rows.now ready c.deref-2.result.now there.hides c.deref-5.result.now there.are c.deref-3.result.now there.shared_are c.deref-4.result.now there.links_are c.args.out.now c.add_unless.new.out c.judge_each.new.out c.judge_link_counts.new.out
    c.in_ok-named.named c.in_ok-good.good c.in_ok-counted.counted c.both.result c.both-2.result c.both.ensures c.both-2.ensures
    (name_decided volume c.args.pairs.now c.args.rows.now ready c.deref-2.result.now there.hides c.deref-5.result.now there.are c.deref-3.result.now there.shared_are c.deref-4.result.now there.links_are c.in_ok-found.found c.is_private.result c.in_ok-named.named c.id_found.result c.args.out.now c.add_unless.new.out
    found_is c.is_private.ensures c.id_found.ensures c.in_ok-named.ensures.met c.in_ok-named.ensures.found c.in_ok-named.ensures.still c.add_unless.ensures.each)
    (c.in_ok-good.ensures.decided (subst IsNonDecreasing (sym c.deref-3.ensures.value) c.in_ok-shared.ensures.order))
    (c.in_ok-counted.ensures.judged (subst IsNonDecreasing (sym c.deref-4.ensures.value) c.in_ok-links.ensures.order))

pub returns-clause-each : goal.returns-clause-each
returns-clause-each c volume ready = (returns-clause-decided c volume ready).each
