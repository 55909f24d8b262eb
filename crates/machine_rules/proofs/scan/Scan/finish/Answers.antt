use Rattle.std.proofs.Common.{rules, ◌≡◌, ap}
use Rattle.builtin_names.specs.Named.{names_in}
use Rattle.machine_rules.specs.Scans.{ending}
use Rattle.machine_rules.proofs.Scanning.{finish_halted, finish_made}
use Rattle.machine_rules.proofs.scan.Scan.finish.Goals as goal

pub returns-in-Ok : goal.returns-in-Ok
returns-in-Ok c = λ d.
    let same : c.replace-tally.result ≡ c.args.self.now.tally = search rules in
    finish_made (ap (ending (names_in c.args.scene.now.names.now)) same) c.in-Ok.ensures

pub returns-in-Err : goal.returns-in-Err
returns-in-Err c = λ d.
    let same : c.replace-tally.result ≡ c.args.self.now.tally = search rules in
    finish_halted (ap (ending (names_in c.args.scene.now.names.now)) same) c.in-Err.ensures
