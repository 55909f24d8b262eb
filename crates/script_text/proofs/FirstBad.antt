-- The byte at which the reader stops is the first bad one.
use Rattle.std.proofs.Common.{◌≡◌, ◌+◌, take, Some}
use Rattle.script_text.specs.Laws.{StopsAtFirstBad}
use Rattle.script_text.specs.Reader.{read}
use Rattle.script_text.proofs.Refused.{accepts, stops_rightly}
use Rattle.script_text.proofs.Endings.{goes_on_rightly}
use Rattle.script_text.proofs.Coding as coding
use Rattle.script_text.proofs.Alike.{goes_alike}

pub stops_at_first_bad : StopsAtFirstBad
stops_at_first_bad find t k over unread =
    let goes = goes_alike find coding.find (take k t) over.state over.goes_on in
    record {
      within = over.within;
      good = goes_on_rightly coding.find coding.spelling coding.found (take k t) goes.0 goes.1;
      bad = λ p begins. stops_rightly find (take (k + 1) t) begins.0 (over.stops p) begins.1;
      unfinished = λ p full. let e = accepts find t full in let no : read find t ≡ Some e.0 = e.1 in cc;
    }
