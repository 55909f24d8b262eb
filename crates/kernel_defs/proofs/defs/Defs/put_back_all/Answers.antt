use Rattle.std.proofs.Common.{◌∙◌, ap, sym, map, [], ◌∷◌}
use Rattle.std.proofs.lemmas.List.{map-append}
use Rattle.builtin_names.specs.Named.{names_in}
use Rattle.kernel_defs.specs.Locals.{restored}
use Rattle.kernel_defs.specs.Saved.{piece_of}
use Rattle.kernel_defs.proofs.Locals.{restored_last}
use Rattle.kernel_defs.proofs.defs.Defs.put_back_all.Goals as goal

pub loop-piece-preserved : goal.loop-piece-preserved
loop-piece-preserved c =
    ap (restored (names_in c.args.names.now) (map piece_of c.pop.new.self.items)) c.put_back_one.ensures
    ∙ sym (restored_last (names_in c.args.names.now) (map piece_of c.pop.new.self.items) (piece_of c.in-Some.piece) c.loop-piece.self)
    ∙ ap (λ es. restored (names_in c.args.names.now) es c.loop-piece.self)
    (sym (ap (map piece_of) c.in-Some.ensures.items ∙ map-append piece_of c.pop.new.self.items (c.in-Some.piece ∷ [])))
    ∙ c.loop-piece.invariant
