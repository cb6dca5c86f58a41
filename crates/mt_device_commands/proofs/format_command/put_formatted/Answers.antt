use Rattle.std.proofs.lemmas.Result.{on_err_weaker, on_ok_weaker}
use Rattle.mt_folder.proofs.FolderLemmas.{kept_then, put_then}
use Rattle.mt_device_commands.proofs.format_command.put_formatted.Goals as goal

pub returns-in-Ok-clause-put : goal.returns-in-Ok-clause-put
returns-in-Ok-clause-put g c =
    on_ok_weaker c.install.result (λ put. record { content = g.F.Device.Device.seen c.format.new.device; formatted = c.in-Ok.ensures.formatted; put = put_then _ _ _ c.args.name.now _ c.in_ok-device.ensures.kept put })
    c.install.ensures.put

pub returns-in-Ok-clause-err : goal.returns-in-Ok-clause-err
returns-in-Ok-clause-err g c = on_err_weaker c.install.result (λ kept. kept_then _ _ _ c.in_ok-device.ensures.kept kept) c.install.ensures.err
