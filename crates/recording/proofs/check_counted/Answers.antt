-- `check_counted` meets its contract: one law for each return.
use Rattle.recording.proofs.Searches.{counted_2, counted_3, counted_4, end_fits, counted_5, own-fits, counted_6}
use Rattle.recording.proofs.check_counted.Goals as goal

pub returns-then-bad_trucks : goal.returns-then-bad_trucks
returns-then-bad_trucks c = search counted_2

pub returns-then-rounds-gt400 : goal.returns-then-rounds-gt400
returns-then-rounds-gt400 c = search counted_3

pub returns-then-s-bytes_for : goal.returns-then-s-bytes_for
returns-then-s-bytes_for c = search counted_4

pub end_bit-requires : goal.end_bit-requires
end_bit-requires c =
    let sized = c in
    let tested = sized in
    let start = tested in
    end_fits start.args.s.now start.args.n start.args.rounds tested.bad_trucks.result tested.bad_trucks.ensures sized.if-bad_trucks.false
    sized.bytes_for.result sized.if-rounds-gt400.false sized.bytes_for.ensures c.if-s-bytes_for.false c.bits_for.result c.bits_for.ensures

pub returns-then-end_bit : goal.returns-then-end_bit
returns-then-end_bit c = search counted_5

pub check_own-requires : goal.check_own-requires
check_own-requires c =
    let sized = c in
    let tested = sized in
    let start = tested in
    own-fits start.args.s.now start.args.n start.args.rounds tested.bad_trucks.result tested.bad_trucks.ensures sized.if-bad_trucks.false
    sized.bytes_for.result sized.if-rounds-gt400.false sized.bytes_for.ensures c.if-s-bytes_for.false

pub returns : goal.returns
returns c = search counted_6
