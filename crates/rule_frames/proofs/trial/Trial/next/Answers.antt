use Rattle.std.proofs.Common.{◌≡◌, ◌∙◌, ◌∷◌, [], ap, sym, map, drop, Some, None}
use Rattle.builtin_names.specs.Named.{names_in}
use Rattle.match_seq.specs.Goals.{guard_of, found_of}
use Rattle.rule_frames.proofs.Shown.{shows_is, tried_fails, tried_from}
use Rattle.rule_frames.proofs.Asked.{none_left, first_asked}
use Rattle.rule_frames.proofs.trial.Trial.next.Goals as goal

pub returns-in-None : goal.returns-in-None
returns-in-None c = λ d.
    let names = names_in c.args.names.now in
    let t = c.args.self.now in
    let m : (t.matcher ≡ []) × (c.next.new.self ≡ []) = rw c.in-None.is at c.in_ok-found.ensures in
    tried_fails (λ k. shows_is (none_left names t.right t.matcher (λ v. k (Some v)) (k None) m.0))

pub returns-in_ok-take-in-Some : goal.returns-in_ok-take-in-Some
returns-in_ok-take-in-Some c = λ d.
    let names = names_in c.args.names.now in
    let t = c.args.self.now in
    let u = c.take.new.self in
    let same = c.in_ok-take-in-Some.ensures.same in
    let m : t.matcher ≡ found_of c.in-Some.found ∷ c.next.new.self = rw c.in-Some.is at c.in_ok-found.ensures in
    tried_from
    (λ k. first_asked names t.right u.right t.matcher u.matcher (found_of c.in-Some.found) u.binding (map guard_of (drop u.at u.guards)) k
    (m ∙ ap (λ x. found_of c.in-Some.found ∷ x) (sym same.2))
    c.in_ok-take-in-Some.ensures.binding
    (ap (λ n. map guard_of (drop n u.guards)) same.0 ∙ c.in_ok-take-in-Some.ensures.guards)
    same.1)
    (c.ask.ensures d)
