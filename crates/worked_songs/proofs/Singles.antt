-- Single objects, computed on the rules. Each answer is that of the Rust. Assumes nothing.
use Rattle.std.specs.Prelude.{Some}
use mathlib.Core.Path.{◌≡◌, refl}
use Prim.Native.Nat.{ℕ}
use mathlib.Core.Bool.{true, false}
use mathlib.Core.List.{[], ◌∷◌}
use lib.Ieee.{Float, binary32, binary64, of_bits}
use Rattle.rules.specs.Rule.{ended, run}
use Rattle.model.specs.declared.Kind.TheVariants.{Circle, Slider}
use Rattle.model.specs.declared.Object.{Object}
use Rattle.mania.proofs.Computing.{computing}
use Rattle.mania.specs.declared.Stair.TheVariants.{Up, Reverse}
use Rattle.mania.specs.declared.Facts.{Facts}
use Rattle.mania.specs.declared.PrevValues.{PrevValues}
use Rattle.mania.specs.Single.{with_room}

abbrev d : ℕ → Float
d b = of_bits binary64 b

abbrev s : ℕ → Float
s b = of_bits binary32 b

case1 :
    let f : Facts = record { difficulty = d 0x0000000000000000; multiplier = d 0x3FF0000000000000; beat = d 0x407F400000000000; velocity = d 0x3FF0000000000000; kiai = false; density = d 0x4068E00000000000 } in
    let v : PrevValues = record { time = d 0x416FFFCDE0000000; position = record { x = s 0x43C00000; y = s 0x43680000 }; mask = 0; last = 0; stair = Up } in
    let o : Object = record { position = record { x = s 0x43C00000; y = s 0x43400000 }; start = d 0x416FFFFFE0000000; sound = 15; kind = Circle } in
    run (with_room f v 3 o 35700) (1331439861 ∷ 1417339206 ∷ 437132952 ∷ []) ≡ ended (record { notes = (record { column = 0; hold = false; start = d 0x416fffffe0000000; duration = d 0x0 } ∷ record { column = 2; hold = false; start = d 0x416fffffe0000000; duration = d 0x0 } ∷ []); mask = 5; last = 2; stair = Up }) 3
unfolding computing
case1 = refl

case2 :
    let f : Facts = record { difficulty = d 0x400F333333333333; multiplier = d 0x3FF0000000000000; beat = d 0x407F400000000000; velocity = d 0x3FF0000000000000; kiai = false; density = d 0x4069000000000000 } in
    let v : PrevValues = record { time = d 0x416FFFA860000000; position = record { x = s 0x42633333; y = s 0x43400000 }; mask = 3; last = 0; stair = Up } in
    let o : Object = record { position = record { x = s 0x42633333; y = s 0x43400000 }; start = d 0x416FFFFFE0000000; sound = 0; kind = Slider 1 (Some (d 0x4040000000000000)) (Some 15) } in
    run (with_room f v 2 o 35700) (1374389536 ∷ []) ≡ ended (record { notes = (record { column = 0; hold = false; start = d 0x416fffffe0000000; duration = d 0x0 } ∷ record { column = 1; hold = false; start = d 0x41700009f0000000; duration = d 0x0 } ∷ record { column = 0; hold = false; start = d 0x41700013f0000000; duration = d 0x0 } ∷ []); mask = 1; last = 0; stair = Up }) 1
unfolding computing
case2 = refl

case3 :
    let f : Facts = record { difficulty = d 0x401A000000000000; multiplier = d 0x3FF0000000000000; beat = d 0x408F400000000000; velocity = d 0x3FF0000000000000; kiai = true; density = d 0x4078F00000000000 } in
    let v : PrevValues = record { time = d 0x408BF80000000000; position = record { x = s 0xBF800000; y = s 0x43400000 }; mask = 1; last = 0; stair = Reverse } in
    let o : Object = record { position = record { x = s 0xBF800000; y = s 0x43400000 }; start = d 0x408F400000000000; sound = 8; kind = Circle } in
    run (with_room f v 6 o 35700) (2147483647 ∷ []) ≡ ended (record { notes = (record { column = 1; hold = false; start = d 0x408f400000000000; duration = d 0x0 } ∷ record { column = 2; hold = false; start = d 0x408f400000000000; duration = d 0x0 } ∷ record { column = 3; hold = false; start = d 0x408f400000000000; duration = d 0x0 } ∷ []); mask = 14; last = 3; stair = Reverse }) 1
unfolding computing
case3 = refl

case4 :
    let f : Facts = record { difficulty = d 0x4003333333333333; multiplier = d 0x3FF0000000000000; beat = d 0x407F400000000000; velocity = d 0x3FF0000000000000; kiai = true; density = d 0x4068E00000000000 } in
    let v : PrevValues = record { time = d 0x40845A0000000000; position = record { x = s 0x43000000; y = s 0x43680000 }; mask = 63; last = 1; stair = Up } in
    let o : Object = record { position = record { x = s 0x43000000; y = s 0x43400000 }; start = d 0x40884A0000000000; sound = 1; kind = Slider 0 (Some (d 0x404E000000000000)) (Some 4) } in
    run (with_room f v 6 o 35700) (1782411428 ∷ 1352914697 ∷ 1760936592 ∷ []) ≡ ended (record { notes = (record { column = 3; hold = true; start = d 0x4088480000000000; duration = d 0x4072c00000000000 } ∷ record { column = 4; hold = true; start = d 0x4088480000000000; duration = d 0x4072c00000000000 } ∷ []); mask = 24; last = 4; stair = Up }) 3
unfolding computing
case4 = refl

case5 :
    let f : Facts = record { difficulty = d 0x4022000000000000; multiplier = d 0x3FF0000000000000; beat = d 0x407F400000000000; velocity = d 0x3FF0000000000000; kiai = false; density = d 0x4068E00000000000 } in
    let v : PrevValues = record { time = d 0x4099020000000000; position = record { x = s 0x427F999A; y = s 0x43400000 }; mask = 3; last = 1; stair = Up } in
    let o : Object = record { position = record { x = s 0x427F999A; y = s 0x43400000 }; start = d 0x409F420000000000; sound = 4; kind = Circle } in
    run (with_room f v 4 o 35700) (1653562408 ∷ 1574748738 ∷ 1030792149 ∷ []) ≡ ended (record { notes = (record { column = 0; hold = false; start = d 0x409f420000000000; duration = d 0x0 } ∷ record { column = 3; hold = false; start = d 0x409f420000000000; duration = d 0x0 } ∷ []); mask = 9; last = 3; stair = Up }) 3
unfolding computing
case5 = refl

case6 :
    let f : Facts = record { difficulty = d 0x4008CCCCCCCCCCCD; multiplier = d 0x3FF0000000000000; beat = d 0x407F400000000000; velocity = d 0x3FF0000000000000; kiai = true; density = d 0x4069200000000000 } in
    let v : PrevValues = record { time = d 0x4082C00000000000; position = record { x = s 0x43E00000; y = s 0x43400000 }; mask = 0; last = 0; stair = Up } in
    let o : Object = record { position = record { x = s 0x43E00000; y = s 0x43400000 }; start = d 0x408F400000000000; sound = 6; kind = Circle } in
    run (with_room f v 5 o 35700) (1610612738 ∷ 1760936593 ∷ 1077921931 ∷ []) ≡ ended (record { notes = (record { column = 1; hold = false; start = d 0x408f400000000000; duration = d 0x0 } ∷ record { column = 3; hold = false; start = d 0x408f400000000000; duration = d 0x0 } ∷ []); mask = 10; last = 3; stair = Up }) 3
unfolding computing
case6 = refl

case7 :
    let f : Facts = record { difficulty = d 0x4004000000000000; multiplier = d 0x3FF0000000000000; beat = d 0x407F400000000000; velocity = d 0x3FF0000000000000; kiai = false; density = d 0x4069200000000000 } in
    let v : PrevValues = record { time = d 0x409DC20000000000; position = record { x = s 0x43000000; y = s 0x43400000 }; mask = 102; last = 5; stair = Up } in
    let o : Object = record { position = record { x = s 0x43000000; y = s 0x43400000 }; start = d 0x409F420000000000; sound = 8; kind = Slider 1 (Some (d 0x403419999999999A)) (Some 8) } in
    run (with_room f v 7 o 35700) (1236260165 ∷ 477530087 ∷ 2018634629 ∷ 325760928 ∷ []) ≡ ended (record { notes = (record { column = 4; hold = false; start = d 0x409f400000000000; duration = d 0x0 } ∷ record { column = 1; hold = false; start = d 0x40a0680000000000; duration = d 0x0 } ∷ record { column = 6; hold = false; start = d 0x40a1300000000000; duration = d 0x0 } ∷ []); mask = 0; last = 0; stair = Up }) 4
unfolding computing
case7 = refl

case8 :
    let f : Facts = record { difficulty = d 0x4000CCCCCCCCCCCD; multiplier = d 0x3FF0000000000000; beat = d 0x407F400000000000; velocity = d 0x3FF0000000000000; kiai = true; density = d 0x4068E00000000000 } in
    let v : PrevValues = record { time = d 0x409D4E0000000000; position = record { x = s 0x43C00000; y = s 0x43680000 }; mask = 0; last = 0; stair = Reverse } in
    let o : Object = record { position = record { x = s 0x43C00000; y = s 0x43400000 }; start = d 0x409F420000000000; sound = 8; kind = Slider 0 (Some (d 0x404219999999999A)) (Some 2) } in
    run (with_room f v 9 o 35700) (2147483647 ∷ 0 ∷ 2061584300 ∷ []) ≡ ended (record { notes = (record { column = 0; hold = true; start = d 0x409f400000000000; duration = d 0x4066a00000000000 } ∷ record { column = 8; hold = true; start = d 0x409f400000000000; duration = d 0x4066a00000000000 } ∷ []); mask = 257; last = 8; stair = Reverse }) 3
unfolding computing
case8 = refl

case9 :
    let f : Facts = record { difficulty = d 0xC008000000000000; multiplier = d 0x3FF0000000000000; beat = d 0x408F400000000000; velocity = d 0x3FF0000000000000; kiai = true; density = d 0x4078F00000000000 } in
    let v : PrevValues = record { time = d 0x4094520000000000; position = record { x = s 0x43960000; y = s 0x43400000 }; mask = 15; last = 2; stair = Up } in
    let o : Object = record { position = record { x = s 0x43960000; y = s 0x43400000 }; start = d 0x409F420000000000; sound = 4; kind = Slider 0 (Some (d 0x4028000000000000)) (Some 8) } in
    run (with_room f v 4 o 35700) (221796794 ∷ 1653562408 ∷ 1417339209 ∷ []) ≡ ended (record { notes = (record { column = 3; hold = true; start = d 0x409f400000000000; duration = d 0x405e000000000000 } ∷ record { column = 2; hold = true; start = d 0x409f400000000000; duration = d 0x405e000000000000 } ∷ []); mask = 12; last = 2; stair = Up }) 3
unfolding computing
case9 = refl

case10 :
    let f : Facts = record { difficulty = d 0x0000000000000000; multiplier = d 0x3FF0000000000000; beat = d 0x408F400000000000; velocity = d 0x3FF0000000000000; kiai = true; density = d 0x4078F00000000000 } in
    let v : PrevValues = record { time = d 0x4084FA0000000000; position = record { x = s 0x43960000; y = s 0x43680000 }; mask = 118; last = 2; stair = Up } in
    let o : Object = record { position = record { x = s 0x43960000; y = s 0x43400000 }; start = d 0x40884A0000000000; sound = 12; kind = Slider 2 (Some (d 0x4022444444444444)) (Some 4) } in
    run (with_room f v 8 o 35700) (1210620612 ∷ 794568948 ∷ 633544283 ∷ 1197826969 ∷ 1268199179 ∷ 88257797 ∷ 953045552 ∷ []) ≡ ended (record { notes = (record { column = 3; hold = false; start = d 0x4088480000000000; duration = d 0x0 } ∷ record { column = 4; hold = false; start = d 0x408b200000000000; duration = d 0x0 } ∷ record { column = 5; hold = false; start = d 0x408df80000000000; duration = d 0x0 } ∷ record { column = 1; hold = false; start = d 0x4090680000000000; duration = d 0x0 } ∷ []); mask = 0; last = 0; stair = Up }) 7
unfolding computing
case10 = refl

case11 :
    let f : Facts = record { difficulty = d 0x4008000000000000; multiplier = d 0x3FF0000000000000; beat = d 0x408F400000000000; velocity = d 0x3FF0000000000000; kiai = true; density = d 0x4078F00000000000 } in
    let v : PrevValues = record { time = d 0x4085CA0000000000; position = record { x = s 0x44000000; y = s 0x43400000 }; mask = 0; last = 0; stair = Up } in
    let o : Object = record { position = record { x = s 0x44000000; y = s 0x43400000 }; start = d 0x40884A0000000000; sound = 4; kind = Slider 0 (Some (d 0x402419999999999A)) (Some 2) } in
    run (with_room f v 5 o 35700) (0 ∷ 322122547 ∷ 944892807 ∷ []) ≡ ended (record { notes = (record { column = 4; hold = false; start = d 0x4088480000000000; duration = d 0x0 } ∷ record { column = 0; hold = false; start = d 0x408b680000000000; duration = d 0x0 } ∷ []); mask = 1; last = 0; stair = Up }) 3
unfolding computing
case11 = refl

case12 :
    let f : Facts = record { difficulty = d 0x4004CCCCCCCCCCCD; multiplier = d 0x3FF0000000000000; beat = d 0x408F400000000000; velocity = d 0x3FF0000000000000; kiai = false; density = d 0x4079000000000000 } in
    let v : PrevValues = record { time = d 0x4094520000000000; position = record { x = s 0x43800000; y = s 0x43400000 }; mask = 3; last = 1; stair = Reverse } in
    let o : Object = record { position = record { x = s 0x43800000; y = s 0x43400000 }; start = d 0x409F420000000000; sound = 12; kind = Circle } in
    run (with_room f v 2 o 35700) ([]) ≡ ended (record { notes = (record { column = 1; hold = false; start = d 0x409f420000000000; duration = d 0x0 } ∷ record { column = 0; hold = false; start = d 0x409f420000000000; duration = d 0x0 } ∷ []); mask = 3; last = 0; stair = Reverse }) 0
unfolding computing
case12 = refl

case13 :
    let f : Facts = record { difficulty = d 0x4022000000000000; multiplier = d 0x3FF0000000000000; beat = d 0x408F400000000000; velocity = d 0x3FF0000000000000; kiai = false; density = d 0x4079100000000000 } in
    let v : PrevValues = record { time = d 0x408B500000000000; position = record { x = s 0x43000000; y = s 0x43680000 }; mask = 2; last = 1; stair = Reverse } in
    let o : Object = record { position = record { x = s 0x43000000; y = s 0x43400000 }; start = d 0x408F400000000000; sound = 6; kind = Slider 0 (Some (d 0x4032000000000000)) (Some 4) } in
    run (with_room f v 3 o 35700) (2147483647 ∷ 1073741824 ∷ 865870041 ∷ 1525849791 ∷ 1525842457 ∷ 447912263 ∷ []) ≡ ended (record { notes = (record { column = 2; hold = true; start = d 0x408f400000000000; duration = d 0x4066800000000000 } ∷ record { column = 0; hold = true; start = d 0x408f400000000000; duration = d 0x4066800000000000 } ∷ []); mask = 5; last = 0; stair = Reverse }) 6
unfolding computing
case13 = refl

case14 :
    let f : Facts = record { difficulty = d 0x4022000000000000; multiplier = d 0x3FF0000000000000; beat = d 0x408F400000000000; velocity = d 0x3FF0000000000000; kiai = true; density = d 0x4079000000000000 } in
    let v : PrevValues = record { time = d 0xC084D40000000000; position = record { x = s 0x42800000; y = s 0x43680000 }; mask = 0; last = 0; stair = Up } in
    let o : Object = record { position = record { x = s 0x42800000; y = s 0x43400000 }; start = d 0x4040C00000000000; sound = 12; kind = Circle } in
    run (with_room f v 9 o 35700) (1073741824 ∷ 1556925644 ∷ 1245540517 ∷ 353760901 ∷ []) ≡ ended (record { notes = (record { column = 2; hold = false; start = d 0x4040c00000000000; duration = d 0x0 } ∷ record { column = 6; hold = false; start = d 0x4040c00000000000; duration = d 0x0 } ∷ record { column = 0; hold = false; start = d 0x4040c00000000000; duration = d 0x0 } ∷ record { column = 8; hold = false; start = d 0x4040c00000000000; duration = d 0x0 } ∷ []); mask = 325; last = 8; stair = Up }) 4
unfolding computing
case14 = refl

case15 :
    let f : Facts = record { difficulty = d 0x4028000000000000; multiplier = d 0x3FF0000000000000; beat = d 0x408F400000000000; velocity = d 0x3FF0000000000000; kiai = true; density = d 0x4078F00000000000 } in
    let v : PrevValues = record { time = d 0x4072C00000000000; position = record { x = s 0x42800000; y = s 0x43680000 }; mask = 0; last = 0; stair = Up } in
    let o : Object = record { position = record { x = s 0x42800000; y = s 0x43400000 }; start = d 0x408F400000000000; sound = 2; kind = Circle } in
    run (with_room f v 7 o 35700) (1030792151 ∷ 322122549 ∷ 1567663061 ∷ []) ≡ ended (record { notes = (record { column = 0; hold = false; start = d 0x408f400000000000; duration = d 0x0 } ∷ record { column = 1; hold = false; start = d 0x408f400000000000; duration = d 0x0 } ∷ record { column = 5; hold = false; start = d 0x408f400000000000; duration = d 0x0 } ∷ []); mask = 35; last = 5; stair = Up }) 3
unfolding computing
case15 = refl

case16 :
    let f : Facts = record { difficulty = d 0x4004CCCCCCCCCCCD; multiplier = d 0x3FF0000000000000; beat = d 0x408F400000000000; velocity = d 0x3FF0000000000000; kiai = true; density = d 0x4079100000000000 } in
    let v : PrevValues = record { time = d 0x409D260000000000; position = record { x = s 0x43C00000; y = s 0x43680000 }; mask = 0; last = 0; stair = Up } in
    let o : Object = record { position = record { x = s 0x43C00000; y = s 0x43400000 }; start = d 0x409F420000000000; sound = 2; kind = Circle } in
    run (with_room f v 8 o 35700) (1567663064 ∷ 1964947535 ∷ []) ≡ ended (record { notes = (record { column = 6; hold = false; start = d 0x409f420000000000; duration = d 0x0 } ∷ record { column = 7; hold = false; start = d 0x409f420000000000; duration = d 0x0 } ∷ []); mask = 192; last = 7; stair = Up }) 2
unfolding computing
case16 = refl
