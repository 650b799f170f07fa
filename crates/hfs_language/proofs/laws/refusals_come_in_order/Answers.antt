use Rattle.hfs_language.proofs.Ordered.{in_order, reads_attribute, reads_both, reads_mode, reads_number, reads_path, reads_value, too_long}
use Rattle.hfs_language.proofs.laws.refusals_come_in_order.Goals as goal

pub returns-clause-paths : goal.returns-clause-paths
returns-clause-paths c = in_order _ _ (reads_path c.args.one.now) (reads_path c.args.two.now)

pub returns-clause-mode : goal.returns-clause-mode
returns-clause-mode c = in_order _ _ (reads_path c.args.one.now) (reads_mode c.args.two.now)

pub returns-clause-number : goal.returns-clause-number
returns-clause-number c = in_order _ _ (reads_path c.args.one.now) (reads_number c.args.two.now)

pub returns-clause-numbers : goal.returns-clause-numbers
returns-clause-numbers c = in_order _ _ (reads_path c.args.one.now) (reads_both _ _ (reads_number c.args.two.now) (reads_number c.args.three.now))

pub returns-clause-attribute : goal.returns-clause-attribute
returns-clause-attribute c = in_order _ _ (reads_path c.args.one.now) (reads_attribute c.args.two.now)

pub returns-clause-values : goal.returns-clause-values
returns-clause-values c = in_order _ _ (reads_attribute c.args.two.now) (reads_value c.args.three.now)

pub returns-clause-path_and_values : goal.returns-clause-path_and_values
returns-clause-path_and_values c = in_order _ _ (reads_path c.args.one.now) (reads_both _ _ (reads_attribute c.args.two.now) (reads_value c.args.three.now))

pub returns-clause-written : goal.returns-clause-written
returns-clause-written c = in_order _ _ (reads_path c.args.one.now) (reads_both _ _ (reads_number c.args.two.now) (reads_value c.args.three.now))

pub returns-clause-long_line : goal.returns-clause-long_line
returns-clause-long_line c long = too_long c.args.line.now long
