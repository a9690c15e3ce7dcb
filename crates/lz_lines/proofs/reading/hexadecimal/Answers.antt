use Rattle.std.proofs.Common.{◌<◌, arith}
use Rattle.lz_lines.proofs.Hex.{first_room}
use Rattle.lz_lines.proofs.reading.hexadecimal.Goals as goal

pub more_hex-requires-clause-room : goal.more_hex-requires-clause-room
more_hex-requires-clause-room c =
    let small : c.from.result < 16 = omega arith in
    first_room c.args.width c.from.result c.requires.low c.requires.high small
