-- A tree file that was lengthened, from one call to the next.
use Rattle.std.proofs.Common.{◌++◌, [], refl, sym, ◌∙◌, ap, subst, arith}
use Rattle.std.proofs.lemmas.List.{append-nil, append_assoc}
use Rattle.fork_map.specs.Blocks.{blocks_of}
use Rattle.btree_file.specs.Frame.{SameFile}
use Rattle.btree_file.specs.Growth.{GrewFrom, ExtendsMap}
use Rattle.btree_file.specs.declared.tree.TreeFile.{TreeFile}
use Rattle.btree_file.proofs.Stages.{extends_none, extends_both}

-- a file that wasn't lengthened
pub grew_none : (tree : TreeFile) → GrewFrom tree tree
grew_none tree = record { more_blocks = []; blocks = sym (append-nil (blocks_of tree.fork)); per_block = refl; node_size = refl; total = omega arith; map = extends_none tree.shape.total tree.map.items }

-- one growth after another
pub grew_both : (first second third : TreeFile) → GrewFrom first second → GrewFrom second third → GrewFrom first third
grew_both first second third p q = record {
  more_blocks = p.more_blocks ++ q.more_blocks;
  blocks = q.blocks ∙ ap (λ l. l ++ q.more_blocks) p.blocks ∙ append_assoc (blocks_of first.fork) p.more_blocks q.more_blocks;
  per_block = q.per_block ∙ p.per_block;
  node_size = q.node_size ∙ p.node_size;
  total = omega (arith, p.total, q.total);
  map = extends_both first.shape.total second.shape.total first.map.items second.map.items third.map.items p.total p.map q.map;
}

-- what edits leave of the file is no growth
pub grew_edited : (before after : TreeFile) → SameFile before after → GrewFrom before after
grew_edited before after same = record {
  more_blocks = [];
  blocks = ap blocks_of same.fork ∙ sym (append-nil (blocks_of before.fork));
  per_block = same.per_block;
  node_size = same.node_size;
  total = omega (arith, same.total);
  map = subst (λ m. ExtendsMap before.shape.total before.map.items m) (sym same.map) (extends_none before.shape.total before.map.items);
}
