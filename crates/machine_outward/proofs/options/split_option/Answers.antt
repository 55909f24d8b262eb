use Rattle.std.proofs.Common.{◌∙◌, sym}
use Rattle.builtin_names.specs.Named.{names_in}
use Rattle.machine_outward.proofs.MethodOptions.{splits_so, splits_not}
use Rattle.machine_outward.proofs.options.split_option.Goals as goal

pub returns-then-not-is_option : goal.returns-then-not-is_option
returns-then-not-is_option c =
    splits_not (names_in c.args.names.now) c.args.items.now c.last-item.result c.unsplit-then-not-is_option.result c.in-len1-up.len_at_least c.last-item.is (sym c.is_option.ensures ∙ c.if-not-is_option.true) c.unsplit-then-not-is_option.ensures

pub returns-in_ok-copies-in-len1-up : goal.returns-in_ok-copies-in-len1-up
returns-in_ok-copies-in-len1-up c = record {
  by =
      splits_so (names_in c.args.names.now) c.args.items.now c.in_ok-copies-in-len1-up.field-0 c.last-item.result c.in_ok-option-in-len1-up.option c.in-len1-up.len_at_least c.last-item.is (sym c.is_option.ensures ∙ c.if-not-is_option.false)
      c.in_ok-copies-in-len1-up.ensures c.in_ok-option-in-len1-up.ensures;
}
