use Rattle.std.proofs.Common.{◌<◌, ◌^◌, refl, arith}
use Rattle.hx_bytes.specs.Fork.{FitsExtent, FitsFork}
use Rattle.hx_bytes.specs.declared.extents.Extent.{Extent}
use Rattle.hx_bytes.specs.declared.extents.ExtentRecord.{ExtentRecord}
use Rattle.hx_bytes.specs.declared.extents.ForkRecord.{ForkRecord}
use Rattle.volume_base.proofs.HeaderFits.{zeros_are}
use Rattle.volume_base.proofs.header.no_header.Goals as goal

none : FitsExtent (record { start = 0; count = 0 })
none = record { start = omega arith; count = omega arith }

pub returns-clause-fits : goal.returns-clause-fits
returns-clause-fits c =
    record {
      signature = omega arith;
      version = omega arith;
      attributes = omega arith;
      last_mounted_version = omega arith;
      journal_info_block = omega arith;
      create_date = omega arith;
      modify_date = omega arith;
      backup_date = omega arith;
      checked_date = omega arith;
      file_count = omega arith;
      folder_count = omega arith;
      block_size = omega arith;
      total_blocks = omega arith;
      free_blocks = omega arith;
      next_allocation = omega arith;
      rsrc_clump_size = omega arith;
      data_clump_size = omega arith;
      next_catalog_id = omega arith;
      write_count = omega arith;
      encodings_bitmap = omega arith;
      finder_length = refl;
      finder_info = zeros_are 32;
      allocation_fork = record { logical_size = omega arith; clump_size = omega arith; total_blocks = omega arith; extents = record { eight = refl; each = (none, (none, (none, (none, (none, (none, (none, (none, tt)))))))) } };
      extents_fork = record { logical_size = omega arith; clump_size = omega arith; total_blocks = omega arith; extents = record { eight = refl; each = (none, (none, (none, (none, (none, (none, (none, (none, tt)))))))) } };
      catalog_fork = record { logical_size = omega arith; clump_size = omega arith; total_blocks = omega arith; extents = record { eight = refl; each = (none, (none, (none, (none, (none, (none, (none, (none, tt)))))))) } };
      attributes_fork = record { logical_size = omega arith; clump_size = omega arith; total_blocks = omega arith; extents = record { eight = refl; each = (none, (none, (none, (none, (none, (none, (none, (none, tt)))))))) } };
      startup_fork = record { logical_size = omega arith; clump_size = omega arith; total_blocks = omega arith; extents = record { eight = refl; each = (none, (none, (none, (none, (none, (none, (none, (none, tt)))))))) } };
    }
