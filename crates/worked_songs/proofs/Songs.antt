-- Whole jobs, computed on the rules. Each end is that of the Rust. Assumes nothing.
use Rattle.std.specs.Prelude.{Some, None}
use mathlib.Core.Path.{◌≡◌, refl}
use Prim.Native.Nat.{ℕ}
use mathlib.Core.Bool.{true, false}
use mathlib.Core.List.{[], ◌∷◌}
use lib.Ieee.{Float, binary32, binary64, of_bits}
use Rattle.model.specs.declared.Kind.TheVariants.{Circle, Slider, Spinner, Hold}
use Rattle.model.specs.Song.{Song}
use Rattle.mania.specs.Job.{accepted, refusal, job}
use lib.ListN.{replicate}
use Rattle.mania.proofs.Computing.{computing}

abbrev d : ℕ → Float
d b = of_bits binary64 b

abbrev s : ℕ → Float
s b = of_bits binary32 b

song1_song : Song
song1_song =
    record {
      keys = 5;
      settings = record { hp = s 0x1; cs = s 0x40d92316; od = s 0x40133333; ar = s 0x4019999a; multiplier = d 0x400ccccccccccccd };
      breaks = ([]);
      timing_points = ([]);
      difficulty_points = ([]);
      effect_points = ([]);
      objects =
          (record { position = record { x = s 0x43d30c1c; y = s 0x42e2ac8c }; start = d 0x4094040000000000; sound = 14; kind = Circle }
          ∷ record { position = record { x = s 0x43b30000; y = s 0x43080000 }; start = d 0x4095d00000000000; sound = 4; kind = Circle }
          ∷ record { position = record { x = s 0x41600000; y = s 0x43ca8000 }; start = d 0x4097240000000000; sound = 0; kind = Circle }
          ∷ record { position = record { x = s 0x41e12318; y = s 0x43d19232 }; start = d 0x4098670000000000; sound = 0; kind = Circle }
          ∷ record { position = record { x = s 0x432f0000; y = s 0x43990000 }; start = d 0x4099a90000000000; sound = 0; kind = Circle }
          ∷ []);
    }

song1 : job song1_song (replicate 141 165) 6 ≡ record { answer = accepted 141 2; chart = (37 ∷ 0 ∷ 0 ∷ 7 ∷ 0 ∷ 0 ∷ 0 ∷ 6 ∷ 0 ∷ 0 ∷ 0 ∷ 64 ∷ 148 ∷ 4 ∷ 0 ∷ 0 ∷ 0 ∷ 0 ∷ 0 ∷ 0 ∷ 0 ∷ 0 ∷ 0 ∷ 0 ∷ 0 ∷ 0 ∷ 0 ∷ 64 ∷ 0 ∷ 0 ∷ 64 ∷ 148 ∷ 4 ∷ 0 ∷ 0 ∷ 0 ∷ 0 ∷ 0 ∷ 0 ∷ 0 ∷ 0 ∷ 0 ∷ 0 ∷ 0 ∷ 0 ∷ 0 ∷ 32 ∷ 0 ∷ 128 ∷ 64 ∷ 149 ∷ 208 ∷ 0 ∷ 0 ∷ 0 ∷ 0 ∷ 0 ∷ 0 ∷ 0 ∷ 0 ∷ 0 ∷ 0 ∷ 0 ∷ 0 ∷ 0 ∷ 48 ∷ 0 ∷ 128 ∷ 64 ∷ 149 ∷ 208 ∷ 0 ∷ 0 ∷ 0 ∷ 0 ∷ 0 ∷ 0 ∷ 0 ∷ 0 ∷ 0 ∷ 0 ∷ 0 ∷ 0 ∷ 0 ∷ 0 ∷ 1 ∷ 0 ∷ 64 ∷ 151 ∷ 36 ∷ 0 ∷ 0 ∷ 0 ∷ 0 ∷ 0 ∷ 0 ∷ 0 ∷ 0 ∷ 0 ∷ 0 ∷ 0 ∷ 0 ∷ 0 ∷ 16 ∷ 1 ∷ 128 ∷ 64 ∷ 152 ∷ 103 ∷ 0 ∷ 0 ∷ 0 ∷ 0 ∷ 0 ∷ 0 ∷ 0 ∷ 0 ∷ 0 ∷ 0 ∷ 0 ∷ 0 ∷ 0 ∷ 32 ∷ 2 ∷ 0 ∷ 64 ∷ 153 ∷ 169 ∷ 0 ∷ 0 ∷ 0 ∷ 0 ∷ 0 ∷ 0 ∷ 0 ∷ 0 ∷ 0 ∷ 0 ∷ 0 ∷ 0 ∷ 0 ∷ []) }
unfolding song1_song computing
song1 = refl

song2_song : Song
song2_song =
    record {
      keys = 5;
      settings = record { hp = s 0x40e00000; cs = s 0x3e4ccccd; od = s 0x4099999a; ar = s 0x410e6666; multiplier = d 0x3ff6666666666666 };
      breaks = (record { start = d 0x415a0aa580000000; end = d 0x415a1b8fa8c6b069 } ∷ record { start = d 0x416d9011e0000000; end = d 0x416d9886f4635835 } ∷ []);
      timing_points = ([]);
      difficulty_points = (record { time = d 0x0; velocity = d 0x4024000000000000 } ∷ record { time = d 0x41661f3eb7e62e5e; velocity = d 0x3fda2c68aaac1e74 } ∷ []);
      effect_points = (record { time = d 0xc1676a7f9892375a; kiai = true } ∷ []);
      objects =
          (record { position = record { x = s 0x4380acbe; y = s 0x432338fb }; start = d 0x0; sound = 0; kind = Hold (d 0x0) }
          ∷ record { position = record { x = s 0x4375597c; y = s 0x431338fb }; start = d 0x40a3880000000000; sound = 1; kind = Hold (d 0x4164f8dda0000000) }
          ∷ record { position = record { x = s 0x43908000; y = s 0x43380000 }; start = d 0x40bd9cc000000000; sound = 0; kind = Slider 6 (Some (d 0x4063a70a3d70a3d6)) None }
          ∷ record { position = record { x = s 0x438a8000; y = s 0x43280000 }; start = d 0x40c8926000000000; sound = 7; kind = Hold (d 0x0) }
          ∷ record { position = record { x = s 0x447700ed; y = s 0xc3f60000 }; start = d 0x40d12b3000000000; sound = 9; kind = Spinner (d 0x4168982160000000) }
          ∷ []);
    }

song2 : job song2_song (replicate 237 165) 14 ≡ record { answer = accepted 236 2; chart = (37 ∷ 0 ∷ 0 ∷ 12 ∷ 0 ∷ 0 ∷ 0 ∷ 13 ∷ 0 ∷ 0 ∷ 0 ∷ 0 ∷ 0 ∷ 0 ∷ 0 ∷ 0 ∷ 0 ∷ 0 ∷ 0 ∷ 0 ∷ 0 ∷ 0 ∷ 0 ∷ 0 ∷ 0 ∷ 0 ∷ 0 ∷ 24 ∷ 0 ∷ 128 ∷ 64 ∷ 163 ∷ 136 ∷ 0 ∷ 0 ∷ 0 ∷ 0 ∷ 0 ∷ 65 ∷ 100 ∷ 248 ∷ 221 ∷ 160 ∷ 0 ∷ 0 ∷ 0 ∷ 32 ∷ 1 ∷ 0 ∷ 64 ∷ 189 ∷ 157 ∷ 0 ∷ 0 ∷ 0 ∷ 0 ∷ 0 ∷ 0 ∷ 0 ∷ 0 ∷ 0 ∷ 0 ∷ 0 ∷ 0 ∷ 0 ∷ 64 ∷ 1 ∷ 0 ∷ 64 ∷ 190 ∷ 13 ∷ 0 ∷ 0 ∷ 0 ∷ 0 ∷ 0 ∷ 0 ∷ 0 ∷ 0 ∷ 0 ∷ 0 ∷ 0 ∷ 0 ∷ 0 ∷ 48 ∷ 1 ∷ 0 ∷ 64 ∷ 190 ∷ 125 ∷ 0 ∷ 0 ∷ 0 ∷ 0 ∷ 0 ∷ 0 ∷ 0 ∷ 0 ∷ 0 ∷ 0 ∷ 0 ∷ 0 ∷ 0 ∷ 32 ∷ 1 ∷ 0 ∷ 64 ∷ 190 ∷ 237 ∷ 0 ∷ 0 ∷ 0 ∷ 0 ∷ 0 ∷ 0 ∷ 0 ∷ 0 ∷ 0 ∷ 0 ∷ 0 ∷ 0 ∷ 0 ∷ 16 ∷ 1 ∷ 0 ∷ 64 ∷ 191 ∷ 93 ∷ 0 ∷ 0 ∷ 0 ∷ 0 ∷ 0 ∷ 0 ∷ 0 ∷ 0 ∷ 0 ∷ 0 ∷ 0 ∷ 0 ∷ 0 ∷ 0 ∷ 1 ∷ 0 ∷ 64 ∷ 191 ∷ 205 ∷ 0 ∷ 0 ∷ 0 ∷ 0 ∷ 0 ∷ 0 ∷ 0 ∷ 0 ∷ 0 ∷ 0 ∷ 0 ∷ 0 ∷ 0 ∷ 16 ∷ 1 ∷ 0 ∷ 64 ∷ 192 ∷ 30 ∷ 128 ∷ 0 ∷ 0 ∷ 0 ∷ 0 ∷ 0 ∷ 0 ∷ 0 ∷ 0 ∷ 0 ∷ 0 ∷ 0 ∷ 0 ∷ 0 ∷ 1 ∷ 0 ∷ 64 ∷ 192 ∷ 86 ∷ 128 ∷ 0 ∷ 0 ∷ 0 ∷ 0 ∷ 0 ∷ 0 ∷ 0 ∷ 0 ∷ 0 ∷ 0 ∷ 0 ∷ 0 ∷ 64 ∷ 1 ∷ 128 ∷ 64 ∷ 200 ∷ 146 ∷ 96 ∷ 0 ∷ 0 ∷ 0 ∷ 0 ∷ 0 ∷ 0 ∷ 0 ∷ 0 ∷ 0 ∷ 0 ∷ 0 ∷ 0 ∷ 40 ∷ 2 ∷ 0 ∷ 64 ∷ 209 ∷ 43 ∷ 48 ∷ 0 ∷ 0 ∷ 0 ∷ 0 ∷ 65 ∷ 104 ∷ 152 ∷ 33 ∷ 96 ∷ 0 ∷ 0 ∷ 0 ∷ 165 ∷ []) }
unfolding song2_song computing
song2 = refl

song3_song : Song
song3_song =
    record {
      keys = 7;
      settings = record { hp = s 0x41200000; cs = s 0x40600000; od = s 0x41200000; ar = s 0x411fffff; multiplier = d 0x3ff0000000000000 };
      breaks = ([]);
      timing_points = ([]);
      difficulty_points = ([]);
      effect_points = (record { time = d 0x4093ac0000000000; kiai = true } ∷ record { time = d 0x40bd7c0000000000; kiai = false } ∷ []);
      objects =
          (record { position = record { x = s 0x43ad7ca6; y = s 0x4322c893 }; start = d 0x4064000000000000; sound = 6; kind = Slider 5 (Some (d 0x4034400000000000)) (Some 1) }
          ∷ record { position = record { x = s 0x43ad7ca6; y = s 0x4322c893 }; start = d 0x4072200000000000; sound = 15; kind = Circle }
          ∷ record { position = record { x = s 0x40400000; y = s 0x43400000 }; start = d 0x407ae00000000000; sound = 1; kind = Circle }
          ∷ record { position = record { x = s 0x41980000; y = s 0x434c0000 }; start = d 0x4081d00000000000; sound = 13; kind = Circle }
          ∷ record { position = record { x = s 0x41c00000; y = s 0x43490000 }; start = d 0x4086300000000000; sound = 0; kind = Circle }
          ∷ []);
    }

song3 : job song3_song (replicate 181 165) 6 ≡ record { answer = accepted 179 1; chart = (39 ∷ 0 ∷ 0 ∷ 9 ∷ 0 ∷ 0 ∷ 0 ∷ 6 ∷ 72 ∷ 0 ∷ 0 ∷ 64 ∷ 100 ∷ 0 ∷ 0 ∷ 0 ∷ 0 ∷ 0 ∷ 0 ∷ 64 ∷ 146 ∷ 252 ∷ 0 ∷ 0 ∷ 0 ∷ 0 ∷ 0 ∷ 16 ∷ 0 ∷ 128 ∷ 64 ∷ 114 ∷ 32 ∷ 0 ∷ 0 ∷ 0 ∷ 0 ∷ 0 ∷ 0 ∷ 0 ∷ 0 ∷ 0 ∷ 0 ∷ 0 ∷ 0 ∷ 0 ∷ 0 ∷ 1 ∷ 0 ∷ 64 ∷ 122 ∷ 224 ∷ 0 ∷ 0 ∷ 0 ∷ 0 ∷ 0 ∷ 0 ∷ 0 ∷ 0 ∷ 0 ∷ 0 ∷ 0 ∷ 0 ∷ 0 ∷ 16 ∷ 1 ∷ 128 ∷ 64 ∷ 129 ∷ 208 ∷ 0 ∷ 0 ∷ 0 ∷ 0 ∷ 0 ∷ 0 ∷ 0 ∷ 0 ∷ 0 ∷ 0 ∷ 0 ∷ 0 ∷ 0 ∷ 48 ∷ 1 ∷ 128 ∷ 64 ∷ 129 ∷ 208 ∷ 0 ∷ 0 ∷ 0 ∷ 0 ∷ 0 ∷ 0 ∷ 0 ∷ 0 ∷ 0 ∷ 0 ∷ 0 ∷ 0 ∷ 0 ∷ 80 ∷ 1 ∷ 128 ∷ 64 ∷ 129 ∷ 208 ∷ 0 ∷ 0 ∷ 0 ∷ 0 ∷ 0 ∷ 0 ∷ 0 ∷ 0 ∷ 0 ∷ 0 ∷ 0 ∷ 0 ∷ 0 ∷ 16 ∷ 2 ∷ 0 ∷ 64 ∷ 134 ∷ 48 ∷ 0 ∷ 0 ∷ 0 ∷ 0 ∷ 0 ∷ 0 ∷ 0 ∷ 0 ∷ 0 ∷ 0 ∷ 0 ∷ 0 ∷ 0 ∷ 48 ∷ 2 ∷ 0 ∷ 64 ∷ 134 ∷ 48 ∷ 0 ∷ 0 ∷ 0 ∷ 0 ∷ 0 ∷ 0 ∷ 0 ∷ 0 ∷ 0 ∷ 0 ∷ 0 ∷ 0 ∷ 0 ∷ 80 ∷ 2 ∷ 0 ∷ 64 ∷ 134 ∷ 48 ∷ 0 ∷ 0 ∷ 0 ∷ 0 ∷ 0 ∷ 0 ∷ 0 ∷ 0 ∷ 0 ∷ 0 ∷ 0 ∷ 0 ∷ 0 ∷ 165 ∷ 165 ∷ []) }
unfolding song3_song computing
song3 = refl

song4_song : Song
song4_song =
    record {
      keys = 8;
      settings = record { hp = s 0x405dba30; cs = s 0x40f9999a; od = s 0x4039999a; ar = s 0x4102c770; multiplier = d 0x3ffccccccccccccd };
      breaks = ([]);
      timing_points = ([]);
      difficulty_points = ([]);
      effect_points = (record { time = d 0xc08e280000000000; kiai = true } ∷ record { time = d 0xc083180000000000; kiai = false } ∷ []);
      objects =
          (record { position = record { x = s 0x43f47a1c; y = s 0x43b301a4 }; start = d 0x4095ec0000000000; sound = 14; kind = Circle }
          ∷ record { position = record { x = s 0x43ee7a1c; y = s 0x43bb01a4 }; start = d 0x4097df999999999a; sound = 15; kind = Circle }
          ∷ record { position = record { x = s 0x43f58c4d; y = s 0x43c213d5 }; start = d 0x4099ab999999999a; sound = 1; kind = Circle }
          ∷ record { position = record { x = s 0x43fb8c4d; y = s 0x43ca13d5 }; start = d 0x409b9f3333333334; sound = 2; kind = Circle }
          ∷ record { position = record { x = s 0x44014f3f; y = s 0x43d12606 }; start = d 0x409cdf3333333334; sound = 2; kind = Circle }
          ∷ []);
    }

song4 : job song4_song (replicate 179 165) 6 ≡ record { answer = accepted 179 1; chart = (40 ∷ 0 ∷ 0 ∷ 9 ∷ 0 ∷ 0 ∷ 0 ∷ 5 ∷ 0 ∷ 0 ∷ 0 ∷ 64 ∷ 149 ∷ 236 ∷ 0 ∷ 0 ∷ 0 ∷ 0 ∷ 0 ∷ 0 ∷ 0 ∷ 0 ∷ 0 ∷ 0 ∷ 0 ∷ 0 ∷ 0 ∷ 16 ∷ 0 ∷ 0 ∷ 64 ∷ 149 ∷ 236 ∷ 0 ∷ 0 ∷ 0 ∷ 0 ∷ 0 ∷ 0 ∷ 0 ∷ 0 ∷ 0 ∷ 0 ∷ 0 ∷ 0 ∷ 0 ∷ 112 ∷ 0 ∷ 0 ∷ 64 ∷ 149 ∷ 236 ∷ 0 ∷ 0 ∷ 0 ∷ 0 ∷ 0 ∷ 0 ∷ 0 ∷ 0 ∷ 0 ∷ 0 ∷ 0 ∷ 0 ∷ 0 ∷ 0 ∷ 0 ∷ 128 ∷ 64 ∷ 151 ∷ 223 ∷ 153 ∷ 153 ∷ 153 ∷ 153 ∷ 154 ∷ 0 ∷ 0 ∷ 0 ∷ 0 ∷ 0 ∷ 0 ∷ 0 ∷ 0 ∷ 32 ∷ 0 ∷ 128 ∷ 64 ∷ 151 ∷ 223 ∷ 153 ∷ 153 ∷ 153 ∷ 153 ∷ 154 ∷ 0 ∷ 0 ∷ 0 ∷ 0 ∷ 0 ∷ 0 ∷ 0 ∷ 0 ∷ 48 ∷ 0 ∷ 128 ∷ 64 ∷ 151 ∷ 223 ∷ 153 ∷ 153 ∷ 153 ∷ 153 ∷ 154 ∷ 0 ∷ 0 ∷ 0 ∷ 0 ∷ 0 ∷ 0 ∷ 0 ∷ 0 ∷ 112 ∷ 1 ∷ 0 ∷ 64 ∷ 153 ∷ 171 ∷ 153 ∷ 153 ∷ 153 ∷ 153 ∷ 154 ∷ 0 ∷ 0 ∷ 0 ∷ 0 ∷ 0 ∷ 0 ∷ 0 ∷ 0 ∷ 96 ∷ 1 ∷ 128 ∷ 64 ∷ 155 ∷ 159 ∷ 51 ∷ 51 ∷ 51 ∷ 51 ∷ 52 ∷ 0 ∷ 0 ∷ 0 ∷ 0 ∷ 0 ∷ 0 ∷ 0 ∷ 0 ∷ 112 ∷ 2 ∷ 0 ∷ 64 ∷ 156 ∷ 223 ∷ 51 ∷ 51 ∷ 51 ∷ 51 ∷ 52 ∷ 0 ∷ 0 ∷ 0 ∷ 0 ∷ 0 ∷ 0 ∷ 0 ∷ 0 ∷ []) }
unfolding song4_song computing
song4 = refl

song5_song : Song
song5_song =
    record {
      keys = 5;
      settings = record { hp = s 0x411b3333; cs = s 0x40066666; od = s 0x3f666666; ar = s 0x3c3a5771; multiplier = d 0x4007139f532a1d80 };
      breaks = ([]);
      timing_points = ([]);
      difficulty_points = (record { time = d 0x406fa00000000000; velocity = d 0x3ff0000000000000 } ∷ record { time = d 0x407a800000000000; velocity = d 0x3fe0000000000000 } ∷ []);
      effect_points = (record { time = d 0x4092200000000000; kiai = false } ∷ record { time = d 0x40ac3a0000000000; kiai = true } ∷ []);
      objects =
          (record { position = record { x = s 0x43aa0000; y = s 0xc1d00000 }; start = d 0x4093100000000000; sound = 0; kind = Slider 3 (Some (d 0x40820754c496ffde)) (Some 5) }
          ∷ record { position = record { x = s 0x42a00000; y = s 0x41900000 }; start = d 0x409ae00000000000; sound = 0; kind = Slider 0 (Some (d 0x406805ed5c1357b5)) (Some 5) }
          ∷ record { position = record { x = s 0x44008000; y = s 0x41900000 }; start = d 0x40a00a999999999a; sound = 1; kind = Slider 2 (Some (d 0x40303269960d1463)) None }
          ∷ record { position = record { x = s 0x43f78000; y = s 0x43c38000 }; start = d 0x40bb8d8ccccccccd; sound = 0; kind = Hold (d 0x0) }
          ∷ record { position = record { x = s 0x43fe9232; y = s 0x43ca9232 }; start = d 0x40c78ac666666666; sound = 8; kind = Hold (d 0x4058f9999999999a) }
          ∷ []);
    }

song5 : job song5_song (replicate 159 165) 14 ≡ record { answer = refusal 11 4 14; chart = (0 ∷ 0 ∷ 0 ∷ 0 ∷ 0 ∷ 0 ∷ 0 ∷ 0 ∷ 0 ∷ 0 ∷ 0 ∷ 0 ∷ 0 ∷ 0 ∷ 0 ∷ 0 ∷ 0 ∷ 0 ∷ 0 ∷ 0 ∷ 0 ∷ 0 ∷ 0 ∷ 0 ∷ 0 ∷ 0 ∷ 0 ∷ 0 ∷ 0 ∷ 0 ∷ 0 ∷ 0 ∷ 0 ∷ 0 ∷ 0 ∷ 0 ∷ 0 ∷ 0 ∷ 0 ∷ 0 ∷ 0 ∷ 0 ∷ 0 ∷ 0 ∷ 0 ∷ 0 ∷ 0 ∷ 0 ∷ 0 ∷ 0 ∷ 0 ∷ 0 ∷ 0 ∷ 0 ∷ 0 ∷ 0 ∷ 0 ∷ 0 ∷ 0 ∷ 0 ∷ 0 ∷ 0 ∷ 0 ∷ 0 ∷ 0 ∷ 0 ∷ 0 ∷ 0 ∷ 0 ∷ 0 ∷ 0 ∷ 0 ∷ 0 ∷ 0 ∷ 0 ∷ 0 ∷ 0 ∷ 0 ∷ 0 ∷ 0 ∷ 0 ∷ 0 ∷ 0 ∷ 0 ∷ 0 ∷ 0 ∷ 0 ∷ 0 ∷ 0 ∷ 0 ∷ 0 ∷ 0 ∷ 0 ∷ 0 ∷ 0 ∷ 0 ∷ 0 ∷ 0 ∷ 0 ∷ 0 ∷ 0 ∷ 0 ∷ 0 ∷ 0 ∷ 0 ∷ 0 ∷ 0 ∷ 0 ∷ 0 ∷ 0 ∷ 0 ∷ 0 ∷ 0 ∷ 0 ∷ 0 ∷ 0 ∷ 0 ∷ 0 ∷ 0 ∷ 0 ∷ 0 ∷ 0 ∷ 0 ∷ 0 ∷ 0 ∷ 0 ∷ 0 ∷ 0 ∷ 0 ∷ 0 ∷ 0 ∷ 0 ∷ 0 ∷ 0 ∷ 0 ∷ 0 ∷ 0 ∷ 0 ∷ 0 ∷ 0 ∷ 0 ∷ 0 ∷ 0 ∷ 0 ∷ 0 ∷ 0 ∷ 0 ∷ 0 ∷ 0 ∷ 0 ∷ 0 ∷ 0 ∷ 0 ∷ 0 ∷ 0 ∷ 0 ∷ 0 ∷ 0 ∷ 0 ∷ []) }
unfolding song5_song computing
song5 = refl

song6_song : Song
song6_song =
    record {
      keys = 8;
      settings = record { hp = s 0x40333333; cs = s 0x40533333; od = s 0x3fc00000; ar = s 0x410ccccd; multiplier = d 0x3fd999999999999a };
      breaks = (record { start = d 0x41689464c0000000; end = d 0x4168ca961d0cfbcf } ∷ []);
      timing_points = (record { time = d 0xc08c880000000000; beat = d 0x4074d547ae147ae1 } ∷ record { time = d 0xc08c500000000000; beat = d 0x40ed4c0000000000 } ∷ []);
      difficulty_points = ([]);
      effect_points = (record { time = d 0x409e200000000000; kiai = true } ∷ record { time = d 0x40c0348000000000; kiai = false } ∷ []);
      objects =
          (record { position = record { x = s 0xc0800000; y = s 0x42080000 }; start = d 0x0; sound = 0; kind = Slider 11 (Some (d 0x4090aaaaaaaaaaab)) None }
          ∷ record { position = record { x = s 0x43d00000; y = s 0x432e0000 }; start = d 0x408f400000000000; sound = 0; kind = Circle }
          ∷ record { position = record { x = s 0x433b0000; y = s 0x428e0000 }; start = d 0x4094d53333333333; sound = 7; kind = Slider 0 (Some (d 0x3ff55554a260594e)) (Some 13) }
          ∷ record { position = record { x = s 0x43280000; y = s 0x41100000 }; start = d 0x40b95d4ccccccccd; sound = 11; kind = Slider 9 (Some (d 0x4009c284dfce3151)) (Some 9) }
          ∷ record { position = record { x = s 0xbf800000; y = s 0x43a48000 }; start = d 0x40baaa999999999a; sound = 0; kind = Circle }
          ∷ []);
    }

song6 : job song6_song (replicate 124 165) 6 ≡ record { answer = refusal 12 3 6; chart = (0 ∷ 0 ∷ 0 ∷ 0 ∷ 0 ∷ 0 ∷ 0 ∷ 0 ∷ 0 ∷ 0 ∷ 0 ∷ 0 ∷ 0 ∷ 0 ∷ 0 ∷ 0 ∷ 0 ∷ 0 ∷ 0 ∷ 0 ∷ 0 ∷ 0 ∷ 0 ∷ 0 ∷ 0 ∷ 0 ∷ 0 ∷ 0 ∷ 0 ∷ 0 ∷ 0 ∷ 0 ∷ 0 ∷ 0 ∷ 0 ∷ 0 ∷ 0 ∷ 0 ∷ 0 ∷ 0 ∷ 0 ∷ 0 ∷ 0 ∷ 0 ∷ 0 ∷ 0 ∷ 0 ∷ 0 ∷ 0 ∷ 0 ∷ 0 ∷ 0 ∷ 0 ∷ 0 ∷ 0 ∷ 0 ∷ 0 ∷ 0 ∷ 0 ∷ 0 ∷ 0 ∷ 0 ∷ 0 ∷ 0 ∷ 0 ∷ 0 ∷ 0 ∷ 0 ∷ 0 ∷ 0 ∷ 0 ∷ 0 ∷ 0 ∷ 0 ∷ 0 ∷ 0 ∷ 0 ∷ 0 ∷ 0 ∷ 0 ∷ 0 ∷ 0 ∷ 0 ∷ 0 ∷ 0 ∷ 0 ∷ 0 ∷ 0 ∷ 0 ∷ 0 ∷ 0 ∷ 0 ∷ 0 ∷ 0 ∷ 0 ∷ 0 ∷ 0 ∷ 0 ∷ 0 ∷ 0 ∷ 0 ∷ 0 ∷ 0 ∷ 0 ∷ 0 ∷ 0 ∷ 0 ∷ 0 ∷ 0 ∷ 0 ∷ 0 ∷ 0 ∷ 0 ∷ 0 ∷ 0 ∷ 0 ∷ 0 ∷ 0 ∷ 0 ∷ 0 ∷ 0 ∷ 0 ∷ 0 ∷ 0 ∷ []) }
unfolding song6_song computing
song6 = refl

song7_song : Song
song7_song =
    record {
      keys = 3;
      settings = record { hp = s 0x3f666666; cs = s 0x411fffff; od = s 0x3fcccccd; ar = s 0x41000000; multiplier = d 0x400ccccccccccccd };
      breaks = ([]);
      timing_points = (record { time = d 0x4045800000000000; beat = d 0x408f400000000000 } ∷ record { time = d 0x40a37c0000000000; beat = d 0x40ed4c0000000000 } ∷ []);
      difficulty_points = (record { time = d 0x40ac720000000000; velocity = d 0x3fe0000000000000 } ∷ record { time = d 0x40b78f0000000000; velocity = d 0x40217c6ec1d6c95e } ∷ []);
      effect_points = (record { time = d 0x4063e00000000000; kiai = true } ∷ record { time = d 0x407b600000000000; kiai = false } ∷ []);
      objects =
          (record { position = record { x = s 0x43a88000; y = s 0xc1b00000 }; start = d 0x41531cfed7cc9217; sound = 1; kind = Circle }
          ∷ record { position = record { x = s 0x43ae8000; y = s 0xc0c00000 }; start = d 0x41531d21d7cc9217; sound = 12; kind = Circle }
          ∷ record { position = record { x = s 0x43b88000; y = s 0xc0c00000 }; start = d 0x41531d4157cc9217; sound = 0; kind = Circle }
          ∷ record { position = record { x = s 0x43630000; y = s 0x43b60000 }; start = d 0x41531d6457cc9217; sound = 14; kind = Circle }
          ∷ record { position = record { x = s 0x43712463; y = s 0x43bd1231 }; start = d 0x41531d8757cc9217; sound = 5; kind = Circle }
          ∷ []);
    }

song7 : job song7_song (replicate 160 165) 8 ≡ record { answer = accepted 160 0; chart = (35 ∷ 0 ∷ 0 ∷ 8 ∷ 0 ∷ 0 ∷ 0 ∷ 8 ∷ 16 ∷ 0 ∷ 0 ∷ 65 ∷ 83 ∷ 28 ∷ 254 ∷ 215 ∷ 204 ∷ 146 ∷ 23 ∷ 0 ∷ 0 ∷ 0 ∷ 0 ∷ 0 ∷ 0 ∷ 0 ∷ 0 ∷ 0 ∷ 0 ∷ 128 ∷ 65 ∷ 83 ∷ 29 ∷ 33 ∷ 215 ∷ 204 ∷ 146 ∷ 23 ∷ 0 ∷ 0 ∷ 0 ∷ 0 ∷ 0 ∷ 0 ∷ 0 ∷ 0 ∷ 32 ∷ 0 ∷ 128 ∷ 65 ∷ 83 ∷ 29 ∷ 33 ∷ 215 ∷ 204 ∷ 146 ∷ 23 ∷ 0 ∷ 0 ∷ 0 ∷ 0 ∷ 0 ∷ 0 ∷ 0 ∷ 0 ∷ 32 ∷ 1 ∷ 0 ∷ 65 ∷ 83 ∷ 29 ∷ 65 ∷ 87 ∷ 204 ∷ 146 ∷ 23 ∷ 0 ∷ 0 ∷ 0 ∷ 0 ∷ 0 ∷ 0 ∷ 0 ∷ 0 ∷ 0 ∷ 1 ∷ 128 ∷ 65 ∷ 83 ∷ 29 ∷ 100 ∷ 87 ∷ 204 ∷ 146 ∷ 23 ∷ 0 ∷ 0 ∷ 0 ∷ 0 ∷ 0 ∷ 0 ∷ 0 ∷ 0 ∷ 32 ∷ 1 ∷ 128 ∷ 65 ∷ 83 ∷ 29 ∷ 100 ∷ 87 ∷ 204 ∷ 146 ∷ 23 ∷ 0 ∷ 0 ∷ 0 ∷ 0 ∷ 0 ∷ 0 ∷ 0 ∷ 0 ∷ 0 ∷ 2 ∷ 0 ∷ 65 ∷ 83 ∷ 29 ∷ 135 ∷ 87 ∷ 204 ∷ 146 ∷ 23 ∷ 0 ∷ 0 ∷ 0 ∷ 0 ∷ 0 ∷ 0 ∷ 0 ∷ 0 ∷ 32 ∷ 2 ∷ 0 ∷ 65 ∷ 83 ∷ 29 ∷ 135 ∷ 87 ∷ 204 ∷ 146 ∷ 23 ∷ 0 ∷ 0 ∷ 0 ∷ 0 ∷ 0 ∷ 0 ∷ 0 ∷ 0 ∷ []) }
unfolding song7_song computing
song7 = refl

song8_song : Song
song8_song =
    record {
      keys = 6;
      settings = record { hp = s 0x41180000; cs = s 0x40733333; od = s 0x40833333; ar = s 0x40d66666; multiplier = d 0x4002195d3249d52b };
      breaks = ([]);
      timing_points = ([]);
      difficulty_points = (record { time = d 0x40b32c0000000000; velocity = d 0x3ff0000000000000 } ∷ record { time = d 0x40b4c40000000000; velocity = d 0x3ff0000000000000 } ∷ []);
      effect_points = (record { time = d 0x4096f40000000000; kiai = true } ∷ record { time = d 0x40b0f10000000000; kiai = false } ∷ []);
      objects =
          (record { position = record { x = s 0x43410000; y = s 0xc1f00000 }; start = d 0x406be00000000000; sound = 10; kind = Circle }
          ∷ record { position = record { x = s 0x434f2463; y = s 0xc17db9d1 }; start = d 0x4073e00000000000; sound = 12; kind = Circle }
          ∷ record { position = record { x = s 0x42fa0000; y = s 0x43988000 }; start = d 0x4079d00000000000; sound = 3; kind = Circle }
          ∷ record { position = record { x = s 0x43e68000; y = s 0x42860000 }; start = d 0x4080f80000000000; sound = 15; kind = Circle }
          ∷ record { position = record { x = s 0xc0a00000; y = s 0x41b80000 }; start = d 0x4083f00000000000; sound = 0; kind = Circle }
          ∷ []);
    }

song8 : job song8_song (replicate 142 165) 6 ≡ record { answer = accepted 141 1; chart = (38 ∷ 0 ∷ 0 ∷ 7 ∷ 0 ∷ 0 ∷ 0 ∷ 5 ∷ 32 ∷ 0 ∷ 0 ∷ 64 ∷ 107 ∷ 224 ∷ 0 ∷ 0 ∷ 0 ∷ 0 ∷ 0 ∷ 0 ∷ 0 ∷ 0 ∷ 0 ∷ 0 ∷ 0 ∷ 0 ∷ 0 ∷ 48 ∷ 0 ∷ 0 ∷ 64 ∷ 107 ∷ 224 ∷ 0 ∷ 0 ∷ 0 ∷ 0 ∷ 0 ∷ 0 ∷ 0 ∷ 0 ∷ 0 ∷ 0 ∷ 0 ∷ 0 ∷ 0 ∷ 16 ∷ 0 ∷ 128 ∷ 64 ∷ 115 ∷ 224 ∷ 0 ∷ 0 ∷ 0 ∷ 0 ∷ 0 ∷ 0 ∷ 0 ∷ 0 ∷ 0 ∷ 0 ∷ 0 ∷ 0 ∷ 0 ∷ 32 ∷ 1 ∷ 0 ∷ 64 ∷ 121 ∷ 208 ∷ 0 ∷ 0 ∷ 0 ∷ 0 ∷ 0 ∷ 0 ∷ 0 ∷ 0 ∷ 0 ∷ 0 ∷ 0 ∷ 0 ∷ 0 ∷ 32 ∷ 1 ∷ 128 ∷ 64 ∷ 128 ∷ 248 ∷ 0 ∷ 0 ∷ 0 ∷ 0 ∷ 0 ∷ 0 ∷ 0 ∷ 0 ∷ 0 ∷ 0 ∷ 0 ∷ 0 ∷ 0 ∷ 48 ∷ 1 ∷ 128 ∷ 64 ∷ 128 ∷ 248 ∷ 0 ∷ 0 ∷ 0 ∷ 0 ∷ 0 ∷ 0 ∷ 0 ∷ 0 ∷ 0 ∷ 0 ∷ 0 ∷ 0 ∷ 0 ∷ 0 ∷ 2 ∷ 0 ∷ 64 ∷ 131 ∷ 240 ∷ 0 ∷ 0 ∷ 0 ∷ 0 ∷ 0 ∷ 0 ∷ 0 ∷ 0 ∷ 0 ∷ 0 ∷ 0 ∷ 0 ∷ 0 ∷ 165 ∷ []) }
unfolding song8_song computing
song8 = refl

song9_song : Song
song9_song =
    record {
      keys = 9;
      settings = record { hp = s 0x40c9999a; cs = s 0x411b3333; od = s 0x40833333; ar = s 0x40e66666; multiplier = d 0x3fd999999999999a };
      breaks = (record { start = d 0x4159d196c0000000; end = d 0x4159da84c4497446 } ∷ record { start = d 0x415dfeb440000000; end = d 0x415e07a244497446 } ∷ []);
      timing_points = ([]);
      difficulty_points = (record { time = d 0xc1551022c050a9ee; velocity = d 0x401f706577221722 } ∷ []);
      effect_points = (record { time = d 0xc14df92a80000000; kiai = true } ∷ record { time = d 0x0; kiai = true } ∷ []);
      objects =
          (record { position = record { x = s 0x43108000; y = s 0xc4000000 }; start = d 0x4059000000000000; sound = 14; kind = Circle }
          ∷ record { position = record { x = s 0x40c00000; y = s 0x43c58000 }; start = d 0x40b43c0000000000; sound = 1; kind = Slider 0 (Some (d 0x0)) (Some 10) }
          ∷ record { position = record { x = s 0x44254771; y = s 0x447fffff }; start = d 0x40c3e20000000000; sound = 14; kind = Spinner (d 0x4058f9999999999a) }
          ∷ record { position = record { x = s 0xc3cfbc9b; y = s 0x443ea000 }; start = d 0x40cda60000000000; sound = 5; kind = Spinner (d 0x40590000000112e1) }
          ∷ record { position = record { x = s 0x4453bcd9; y = s 0xc4000000 }; start = d 0x40d3b50000000000; sound = 13; kind = Spinner (d 0x4058fffffffeed1f) }
          ∷ []);
    }

song9 : job song9_song (replicate 124 165) 8 ≡ record { answer = accepted 122 2; chart = (41 ∷ 0 ∷ 0 ∷ 6 ∷ 0 ∷ 0 ∷ 0 ∷ 8 ∷ 32 ∷ 0 ∷ 0 ∷ 64 ∷ 89 ∷ 0 ∷ 0 ∷ 0 ∷ 0 ∷ 0 ∷ 0 ∷ 0 ∷ 0 ∷ 0 ∷ 0 ∷ 0 ∷ 0 ∷ 0 ∷ 0 ∷ 48 ∷ 0 ∷ 0 ∷ 64 ∷ 89 ∷ 0 ∷ 0 ∷ 0 ∷ 0 ∷ 0 ∷ 0 ∷ 0 ∷ 0 ∷ 0 ∷ 0 ∷ 0 ∷ 0 ∷ 0 ∷ 0 ∷ 0 ∷ 0 ∷ 128 ∷ 64 ∷ 180 ∷ 60 ∷ 0 ∷ 0 ∷ 0 ∷ 0 ∷ 0 ∷ 0 ∷ 0 ∷ 0 ∷ 0 ∷ 0 ∷ 0 ∷ 0 ∷ 0 ∷ 80 ∷ 1 ∷ 0 ∷ 64 ∷ 195 ∷ 226 ∷ 0 ∷ 0 ∷ 0 ∷ 0 ∷ 0 ∷ 0 ∷ 0 ∷ 0 ∷ 0 ∷ 0 ∷ 0 ∷ 0 ∷ 0 ∷ 72 ∷ 1 ∷ 128 ∷ 64 ∷ 205 ∷ 166 ∷ 0 ∷ 0 ∷ 0 ∷ 0 ∷ 0 ∷ 64 ∷ 89 ∷ 0 ∷ 0 ∷ 0 ∷ 1 ∷ 19 ∷ 0 ∷ 16 ∷ 2 ∷ 0 ∷ 64 ∷ 211 ∷ 181 ∷ 0 ∷ 0 ∷ 0 ∷ 0 ∷ 0 ∷ 0 ∷ 0 ∷ 0 ∷ 0 ∷ 0 ∷ 0 ∷ 0 ∷ 0 ∷ 165 ∷ 165 ∷ []) }
unfolding song9_song computing
song9 = refl

song10_song : Song
song10_song =
    record {
      keys = 1;
      settings = record { hp = s 0x40466666; cs = s 0x400ccccd; od = s 0x3f982af2; ar = s 0x40c66666; multiplier = d 0x3ff0000000000000 };
      breaks = ([]);
      timing_points = ([]);
      difficulty_points = ([]);
      effect_points = ([]);
      objects =
          (record { position = record { x = s 0x43340000; y = s 0x433a0000 }; start = d 0x416ffeabc0000000; sound = 3; kind = Circle }
          ∷ record { position = record { x = s 0x43ee8000; y = s 0x41d00000 }; start = d 0x416ffebfc0000000; sound = 6; kind = Circle }
          ∷ record { position = record { x = s 0x43e08000; y = s 0x43490000 }; start = d 0x416ffed0a3333333; sound = 15; kind = Circle }
          ∷ record { position = record { x = s 0x43980000; y = s 0x41400000 }; start = d 0x416ffee493333333; sound = 0; kind = Slider 0 (Some (d 0x40101eb851eb851e)) (Some 13) }
          ∷ record { position = record { x = s 0x43d30000; y = s 0x431b0000 }; start = d 0x416ffeee83333333; sound = 11; kind = Circle }
          ∷ []);
    }

song10 : job song10_song (replicate 103 165) 1 ≡ record { answer = accepted 103 0; chart = (33 ∷ 0 ∷ 0 ∷ 5 ∷ 0 ∷ 0 ∷ 0 ∷ 0 ∷ 0 ∷ 0 ∷ 0 ∷ 65 ∷ 111 ∷ 254 ∷ 171 ∷ 192 ∷ 0 ∷ 0 ∷ 0 ∷ 0 ∷ 0 ∷ 0 ∷ 0 ∷ 0 ∷ 0 ∷ 0 ∷ 0 ∷ 0 ∷ 0 ∷ 128 ∷ 65 ∷ 111 ∷ 254 ∷ 191 ∷ 192 ∷ 0 ∷ 0 ∷ 0 ∷ 0 ∷ 0 ∷ 0 ∷ 0 ∷ 0 ∷ 0 ∷ 0 ∷ 0 ∷ 0 ∷ 1 ∷ 0 ∷ 65 ∷ 111 ∷ 254 ∷ 208 ∷ 163 ∷ 51 ∷ 51 ∷ 51 ∷ 0 ∷ 0 ∷ 0 ∷ 0 ∷ 0 ∷ 0 ∷ 0 ∷ 0 ∷ 8 ∷ 1 ∷ 128 ∷ 65 ∷ 111 ∷ 254 ∷ 228 ∷ 160 ∷ 0 ∷ 0 ∷ 0 ∷ 64 ∷ 68 ∷ 0 ∷ 0 ∷ 0 ∷ 0 ∷ 0 ∷ 0 ∷ 0 ∷ 2 ∷ 0 ∷ 65 ∷ 111 ∷ 254 ∷ 238 ∷ 131 ∷ 51 ∷ 51 ∷ 51 ∷ 0 ∷ 0 ∷ 0 ∷ 0 ∷ 0 ∷ 0 ∷ 0 ∷ 0 ∷ []) }
unfolding song10_song computing
song10 = refl

song11_song : Song
song11_song =
    record {
      keys = 8;
      settings = record { hp = s 0x40c9999a; cs = s 0x41200000; od = s 0x40833333; ar = s 0x40b89330; multiplier = d 0x400833fc30be75f4 };
      breaks = (record { start = d 0x40f3581000000000; end = d 0x40f5b6be7f214450 } ∷ record { start = d 0x4169595b20000000; end = d 0x41695e187cfe4289 } ∷ []);
      timing_points = ([]);
      difficulty_points = (record { time = d 0x4092e80000000000; velocity = d 0x3fb999999999999a } ∷ record { time = d 0x40a7fc0000000000; velocity = d 0x3fe0000000000000 } ∷ []);
      effect_points = (record { time = d 0xc076400000000000; kiai = false } ∷ record { time = d 0x40b7e20000000000; kiai = false } ∷ []);
      objects =
          (record { position = record { x = s 0x43e82643; y = s 0x42b9a8ff }; start = d 0x409cc80000000000; sound = 0; kind = Hold (d 0x40a7700000000000) }
          ∷ record { position = record { x = s 0x0; y = s 0x43300000 }; start = d 0x40a2750000000000; sound = 11; kind = Slider 0 (Some (d 0x404e3f0b8f279dce)) (Some 10) }
          ∷ record { position = record { x = s 0x428c0000; y = s 0x42aa0000 }; start = d 0x40a4050000000000; sound = 2; kind = Hold (d 0x4059400000000000) }
          ∷ record { position = record { x = s 0x43c80000; y = s 0x43b48000 }; start = d 0x40aa950000000000; sound = 0; kind = Slider 11 (Some (d 0x407104b27f4e66f5)) (Some 12) }
          ∷ record { position = record { x = s 0x43d1ffdf; y = s 0x43b48000 }; start = d 0x40b1328000000000; sound = 0; kind = Slider 8 (Some (d 0x405a78de4fc85947)) (Some 1) }
          ∷ []);
    }

song11 : job song11_song (replicate 102 165) 9 ≡ record { answer = refusal 11 4 9; chart = (0 ∷ 0 ∷ 0 ∷ 0 ∷ 0 ∷ 0 ∷ 0 ∷ 0 ∷ 0 ∷ 0 ∷ 0 ∷ 0 ∷ 0 ∷ 0 ∷ 0 ∷ 0 ∷ 0 ∷ 0 ∷ 0 ∷ 0 ∷ 0 ∷ 0 ∷ 0 ∷ 0 ∷ 0 ∷ 0 ∷ 0 ∷ 0 ∷ 0 ∷ 0 ∷ 0 ∷ 0 ∷ 0 ∷ 0 ∷ 0 ∷ 0 ∷ 0 ∷ 0 ∷ 0 ∷ 0 ∷ 0 ∷ 0 ∷ 0 ∷ 0 ∷ 0 ∷ 0 ∷ 0 ∷ 0 ∷ 0 ∷ 0 ∷ 0 ∷ 0 ∷ 0 ∷ 0 ∷ 0 ∷ 0 ∷ 0 ∷ 0 ∷ 0 ∷ 0 ∷ 0 ∷ 0 ∷ 0 ∷ 0 ∷ 0 ∷ 0 ∷ 0 ∷ 0 ∷ 0 ∷ 0 ∷ 0 ∷ 0 ∷ 0 ∷ 0 ∷ 0 ∷ 0 ∷ 0 ∷ 0 ∷ 0 ∷ 0 ∷ 0 ∷ 0 ∷ 0 ∷ 0 ∷ 0 ∷ 0 ∷ 0 ∷ 0 ∷ 0 ∷ 0 ∷ 0 ∷ 0 ∷ 0 ∷ 0 ∷ 0 ∷ 0 ∷ 0 ∷ 0 ∷ 0 ∷ 0 ∷ 0 ∷ 0 ∷ []) }
unfolding song11_song computing
song11 = refl

song12_song : Song
song12_song =
    record {
      keys = 0;
      settings = record { hp = s 0x40533333; cs = s 0x3f4ccccd; od = s 0x41066666; ar = s 0x40800000; multiplier = d 0x3ffccccccccccccd };
      breaks = (record { start = d 0x409a1bf2bfacfd7f; end = d 0x40ad9c4a5b2c0786 } ∷ record { start = d 0x40ae4c0d87a0539f; end = d 0x40b18e7b050e1b63 } ∷ []);
      timing_points = ([]);
      difficulty_points = ([]);
      effect_points = (record { time = d 0xc080180000000000; kiai = true } ∷ record { time = d 0x409ed80000000000; kiai = true } ∷ []);
      objects =
          (record { position = record { x = s 0x434d00fa; y = s 0x4273c2ad }; start = d 0x40a3460000000000; sound = 0; kind = Slider 7 (Some (d 0x4051fa3d70a3d70a)) None }
          ∷ record { position = record { x = s 0x434100fa; y = s 0x4233c2ad }; start = d 0x40abb60000000000; sound = 0; kind = Slider 0 (Some (d 0x402c8c49ba5e353f)) (Some 0) }
          ∷ record { position = record { x = s 0x43110000; y = s 0xc1300000 }; start = d 0x40ad460000000000; sound = 8; kind = Slider 1 (Some (d 0x4033ac8b43958106)) (Some 1) }
          ∷ record { position = record { x = s 0x431e0000; y = s 0x43580000 }; start = d 0x40b3cb0000000000; sound = 2; kind = Slider 10 (Some (d 0x403d36c8b4395811)) (Some 14) }
          ∷ record { position = record { x = s 0x432a0000; y = s 0x43680000 }; start = d 0x40b8030000000000; sound = 6; kind = Slider 7 (Some (d 0x40301c28f5c28f5c)) (Some 5) }
          ∷ []);
    }

song12 : job song12_song (replicate 143 165) 10 ≡ record { answer = refusal 12 4 10; chart = (0 ∷ 0 ∷ 0 ∷ 0 ∷ 0 ∷ 0 ∷ 0 ∷ 0 ∷ 0 ∷ 0 ∷ 0 ∷ 0 ∷ 0 ∷ 0 ∷ 0 ∷ 0 ∷ 0 ∷ 0 ∷ 0 ∷ 0 ∷ 0 ∷ 0 ∷ 0 ∷ 0 ∷ 0 ∷ 0 ∷ 0 ∷ 0 ∷ 0 ∷ 0 ∷ 0 ∷ 0 ∷ 0 ∷ 0 ∷ 0 ∷ 0 ∷ 0 ∷ 0 ∷ 0 ∷ 0 ∷ 0 ∷ 0 ∷ 0 ∷ 0 ∷ 0 ∷ 0 ∷ 0 ∷ 0 ∷ 0 ∷ 0 ∷ 0 ∷ 0 ∷ 0 ∷ 0 ∷ 0 ∷ 0 ∷ 0 ∷ 0 ∷ 0 ∷ 0 ∷ 0 ∷ 0 ∷ 0 ∷ 0 ∷ 0 ∷ 0 ∷ 0 ∷ 0 ∷ 0 ∷ 0 ∷ 0 ∷ 0 ∷ 0 ∷ 0 ∷ 0 ∷ 0 ∷ 0 ∷ 0 ∷ 0 ∷ 0 ∷ 0 ∷ 0 ∷ 0 ∷ 0 ∷ 0 ∷ 0 ∷ 0 ∷ 0 ∷ 0 ∷ 0 ∷ 0 ∷ 0 ∷ 0 ∷ 0 ∷ 0 ∷ 0 ∷ 0 ∷ 0 ∷ 0 ∷ 0 ∷ 0 ∷ 0 ∷ 0 ∷ 0 ∷ 0 ∷ 0 ∷ 0 ∷ 0 ∷ 0 ∷ 0 ∷ 0 ∷ 0 ∷ 0 ∷ 0 ∷ 0 ∷ 0 ∷ 0 ∷ 0 ∷ 0 ∷ 0 ∷ 0 ∷ 0 ∷ 0 ∷ 0 ∷ 0 ∷ 0 ∷ 0 ∷ 0 ∷ 0 ∷ 0 ∷ 0 ∷ 0 ∷ 0 ∷ 0 ∷ 0 ∷ 0 ∷ 0 ∷ 0 ∷ 0 ∷ 0 ∷ 0 ∷ 0 ∷ 0 ∷ []) }
unfolding song12_song computing
song12 = refl
