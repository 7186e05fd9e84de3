use Rattle.std.proofs.Common.{refl, option_map}
use Rattle.clap.specs.Words.{found_of}
use Rattle.command_line.specs.Words.{Workers, Edges, Readings, Lexical, Unary, Empty}
use Rattle.command_line.proofs.Keeping.{number-kept, settings-kept, mrs-kept, lattice-kept, verbose-kept}
use Rattle.command_line.proofs.reading.options_of.Goals as goal

pub returns : goal.returns
returns c = λ items rows are. (
    let f = found_of c.args.matches.now in
    let workers = number-kept Workers 1 64 1 c.number.result items f refl rows are refl refl refl c.number.ensures.absent c.number.ensures.given in
    let edges = number-kept Edges 1 20000 5000 c.number-2.result items f refl rows are refl refl refl c.number-2.ensures.absent c.number-2.ensures.given in
    let readings = number-kept Readings 1 100000 10000 c.number-3.result items f refl rows are refl refl refl c.number-3.ensures.absent c.number-3.ensures.given in
    let lexical = number-kept Lexical 0 15 7 c.number-4.result items f refl rows are refl refl refl c.number-4.ensures.absent c.number-4.ensures.given in
    let unary = number-kept Unary 0 32 8 c.number-5.result items f refl rows are refl refl refl c.number-5.ensures.absent c.number-5.ensures.given in
    let empty = number-kept Empty 0 16 4 c.number-6.result items f refl rows are refl refl refl c.number-6.ensures.absent c.number-6.ensures.given in
    let settings = settings-kept items f (option_map (λ s. s.now) c.get_str.result) rows are c.get_str.ensures in
    let mrs = mrs-kept items f c.get_flag.result rows c.get_flag.ensures.value c.get_flag.ensures.other in
    let lattice = lattice-kept items f c.get_flag-2.result rows c.get_flag-2.ensures.value c.get_flag-2.ensures.other in
    let verbose = verbose-kept items f c.get_flag-3.result rows c.get_flag-3.ensures.value c.get_flag-3.ensures.other in
    λ i. record { workers = workers i; edges = edges i; readings = readings i; lexical = lexical i; unary = unary i; empty = empty i; settings = settings i; mrs = mrs i; lattice = lattice i; verbose = verbose i })
