use Rattle.odht_raw.specs.Words.{coding_of}
use Rattle.odht.specs.Lookups.{lookups_of, ArePut}
use Rattle.odht.proofs.lemmas.Lookups.{eight_steps}
use Rattle.odht.proofs.lookups.get_eight.Goals as goal

pub returns-clause-answers : goal.returns-clause-answers
returns-clause-answers g c first =
    let K = coding_of g.C.EncodedKey.ByteArray.LEN g.C.EncodedKey.ByteArray.bytes g.C.EncodedKey.ByteArray.of_bytes g.C.EncodedValue.ByteArray.LEN g.C.EncodedValue.ByteArray.bytes g.C.EncodedValue.ByteArray.of_bytes g.C.H.HashFn.hash g.C.Config.encode_key g.C.Config.encode_value g.C.Config.decode_key g.C.Config.decode_value in
    eight_steps (ArePut (lookups_of K c.args.raw.now c.args.keys.now g.A.Answers.after_put) first) c.args.from c.args.answers.now
    c.get_one.new.answers c.get_one-2.new.answers c.get_one-3.new.answers c.get_one-4.new.answers c.get_one-5.new.answers c.get_one-6.new.answers c.get_one-7.new.answers c.get_one-8.new.answers
    (c.get_one.ensures.answers first) (c.get_one-2.ensures.answers first) (c.get_one-3.ensures.answers first) (c.get_one-4.ensures.answers first) (c.get_one-5.ensures.answers first) (c.get_one-6.ensures.answers first) (c.get_one-7.ensures.answers first) (c.get_one-8.ensures.answers first)
