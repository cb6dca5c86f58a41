use Rattle.mt_device_commands.proofs.MigrateLemmas.{migrated_of, unmigrated_of}
use Rattle.mt_device_commands.proofs.migrate_command.migrate_file.Goals as goal

pub returns-clause-migrated : goal.returns-clause-migrated
returns-clause-migrated g c = migrated_of _ _ _ _ c.args.name.now _ _ c.migrate_device-outcome.result.0 c.in_ok-device.ensures.held c.in_ok-device.ensures.lent c.back.ensures c.migrate_device-outcome.ensures.migrated

pub returns-clause-left : goal.returns-clause-left
returns-clause-left g c = unmigrated_of _ _ _ _ c.args.name.now _ _ c.migrate_device-outcome.result.0 c.in_ok-device.ensures.held c.in_ok-device.ensures.lent c.back.ensures c.migrate_device-outcome.ensures.stands c.migrate_device-outcome.ensures.early
