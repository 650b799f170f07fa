use Rattle.std.proofs.Common.{◌<◌, ◌^◌, refl, arith}
use Rattle.hx_bytes.specs.Fork.{FitsExtent}
use Rattle.volume_names.proofs.LinkFields.{link_bytes}
use Rattle.volume_names.proofs.new_entries.new_link.Goals as goal

none : FitsExtent (record { start = 0; count = 0 })
none = record { start = omega arith; count = omega arith }

pub returns-clause-fits : goal.returns-clause-fits
returns-clause-fits c =
    let given = c.new_fields-fields.ensures.fits in
    record {
      fields = record {
        flags = given.flags;
        count = given.count;
        id = given.id;
        created = given.created;
        changed = given.changed;
        attribute = given.attribute;
        accessed = given.accessed;
        backup = given.backup;
        owner = given.owner;
        group = given.group;
        admin_flags = given.admin_flags;
        owner_flags = given.owner_flags;
        mode = given.mode;
        special = given.special;
        finder_length = refl;
        finder = link_bytes;
        encoding = given.encoding;
        rest = given.rest;
      };
      data_fork = c.requires.target;
      resource_fork = record { logical_size = omega arith; clump_size = omega arith; total_blocks = omega arith; extents = record { eight = refl; each = (none, (none, (none, (none, (none, (none, (none, (none, tt)))))))) } };
    }
